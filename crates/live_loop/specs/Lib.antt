pub mod Plans
pub mod Lines
pub mod Ways
pub mod Hearings
pub mod Measures
