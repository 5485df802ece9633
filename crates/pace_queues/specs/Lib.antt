pub mod Waiting
pub mod Rings
