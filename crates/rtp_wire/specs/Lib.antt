pub mod Place
pub mod Stamp
pub mod Elements
pub mod Checks
pub mod Packet
pub mod Wires
pub mod Starts
pub mod Cutting
