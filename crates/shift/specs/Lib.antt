pub mod Round
pub mod Sign
pub mod Shift
pub mod Needs
