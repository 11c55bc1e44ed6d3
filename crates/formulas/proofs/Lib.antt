-- The laws of `formulas`.
pub mod Bytes
pub mod Limits
pub mod Scans
pub mod Sounds
pub mod Places
pub mod Theorems
pub mod Steps
pub mod Counts
pub mod Atoms
pub mod Products
pub mod Sums
pub mod Weighs
