pub mod Rings
pub mod Oldest
pub mod Changes
pub mod Waiting
