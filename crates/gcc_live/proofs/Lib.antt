pub mod Glances
pub mod Lines
