pub mod Level
pub mod Steps
pub mod Spans
