pub mod Serving
pub mod Alone
pub mod Standing
pub mod NackText
