pub mod Trend
pub mod Ranges
pub mod KeptBySamples
