pub mod Refusal
pub mod Outcome
pub mod Points
pub mod Same
