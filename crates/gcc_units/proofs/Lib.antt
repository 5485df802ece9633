pub mod Nearest
pub mod Walk
