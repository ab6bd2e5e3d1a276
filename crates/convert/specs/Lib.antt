pub mod Points
pub mod Convert
pub mod Rounds
pub mod Order
pub mod Batch
pub mod Starred
pub mod Meridian
pub mod Steep
