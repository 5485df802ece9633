pub mod Rising
pub mod Offered
pub mod LinkRuns
mod LinkTimes
mod Runs
mod Built
pub mod Heard
mod Writable
mod OneWay
pub mod Telling
mod Lists
