-- The definitions of `entry_points`.
pub mod Values
pub mod Parts
