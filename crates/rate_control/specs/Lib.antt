pub mod Capacity
pub mod Increase
pub mod Steps
