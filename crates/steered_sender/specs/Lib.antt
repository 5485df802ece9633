pub mod Measures
pub mod Following
pub mod Replies
pub mod Steered
pub mod Steps
pub mod Standing
pub mod Laws
