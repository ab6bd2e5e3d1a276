pub mod NodeLines
pub mod Lengths
pub mod Added
pub mod Answers
