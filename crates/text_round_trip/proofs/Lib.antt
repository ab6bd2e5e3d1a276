pub mod Parsing
pub mod Accepted
pub mod ReadBack
pub mod AgainLaws
pub mod Demands
