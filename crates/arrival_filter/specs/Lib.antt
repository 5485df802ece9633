pub mod Filter
pub mod StateBySamples
