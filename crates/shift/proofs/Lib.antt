pub mod Rounding
pub mod SignLaws
pub mod Sums
pub mod Bulletin
pub mod Cells
pub mod Extremes
pub mod OnGrid
