pub mod Looping
pub mod Kept
pub mod ClosedLoop
