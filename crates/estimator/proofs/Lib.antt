mod Signalling
mod Reports
mod Noting
mod Taking
pub mod Until
