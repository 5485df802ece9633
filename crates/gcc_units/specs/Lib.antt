pub mod Listed
pub mod Numbers
pub mod Priority
pub mod Rates
pub mod Unwrapping
pub mod Walk
