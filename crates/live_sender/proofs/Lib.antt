pub mod Among
pub mod Counting
pub mod Leaving
pub mod Living
pub mod Summing
pub mod NextSends
