pub mod Pace
pub mod Course
pub mod LeftByRecords
pub mod Force
pub mod State
pub mod Inside
pub mod Next
