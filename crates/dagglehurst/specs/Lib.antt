pub mod Reply
pub mod Header
pub mod Points
pub mod Pieces
