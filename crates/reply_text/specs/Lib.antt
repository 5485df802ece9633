pub mod Text
pub mod Legal
pub mod Verdict
pub mod Looking
pub mod Walking
