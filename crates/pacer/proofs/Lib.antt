mod Draining
mod Taking
mod Rising
mod Carrying
mod PaceLoop
mod Room
pub mod Records
pub mod Pace
pub mod Ruled
pub mod LeftByRecords
pub mod Sends
