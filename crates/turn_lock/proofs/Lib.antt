pub mod Sums
pub mod Keeps
pub mod Cuts
pub mod Calls
pub mod Lists
pub mod Adding
pub mod Names
