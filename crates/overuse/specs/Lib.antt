pub mod Detector
pub mod StateBySteps
