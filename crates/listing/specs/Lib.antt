pub mod Lines
pub mod Listing
pub mod Pieces
pub mod Joined
pub mod Filed
pub mod Batch
pub mod Needs
