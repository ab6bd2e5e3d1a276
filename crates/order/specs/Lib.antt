pub mod Standings
pub mod Comparing
pub mod Needs
