pub mod Rules
pub mod Grid
pub mod Nodes
pub mod Check
pub mod Needs
pub mod Lent
