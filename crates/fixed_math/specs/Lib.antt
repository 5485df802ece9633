pub mod Floor
pub mod Power
pub mod Root
