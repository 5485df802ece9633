pub mod Lone
pub mod Lines
pub mod Distinct
pub mod Nacks
pub mod MediaPackets
pub mod Few
pub mod Closed
pub mod NackLines
