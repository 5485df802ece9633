pub mod Chunks
pub mod Spelling
pub mod Reading
pub mod Runs
pub mod Checks
pub mod Canonical
pub mod FewStatuses
