pub mod Axis
pub mod Surface
pub mod Answers
pub mod Search
