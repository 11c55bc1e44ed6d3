-- The laws of `sheet`.
pub mod Rows
pub mod Bits
pub mod Fills
pub mod Joins
pub mod Judging
pub mod Hopping
pub mod Rounds
pub mod Numbers
pub mod Values
pub mod Fronts
