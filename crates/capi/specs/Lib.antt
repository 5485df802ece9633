pub mod Serving
pub mod Codes
pub mod Controls
pub mod Outcomes
pub mod Hearing
pub mod Looking
pub mod Changing
pub mod Stamping
