pub mod Walking
pub mod Pieces
pub mod Stamping
pub mod ByElements
pub mod ByChecks
