mod Lists
pub mod Numbers
mod Gaps
mod Windows
mod Few
