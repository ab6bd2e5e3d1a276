pub mod Outcome
pub mod Reading
pub mod Tally
