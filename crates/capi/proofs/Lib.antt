pub mod Kept
pub mod Findings
pub mod Hearing
pub mod Causes
pub mod NextTimes
pub mod Counted
