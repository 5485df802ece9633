pub mod Greatest
pub mod Streams
pub mod Order
pub mod Shares
pub mod Breakpoints
