pub mod Signals
pub mod Report
pub mod Est
pub mod Kept
