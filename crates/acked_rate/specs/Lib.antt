pub mod Received
pub mod Ring
pub mod Kept
