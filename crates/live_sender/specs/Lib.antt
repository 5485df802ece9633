pub mod Held
pub mod Live
pub mod Replies
pub mod Sums
