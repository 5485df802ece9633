pub mod Greatest
pub mod Levels
pub mod Walk
pub mod Ids
pub mod Placed
pub mod InOrder
pub mod Changed
pub mod RisingShares
