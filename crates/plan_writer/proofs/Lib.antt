-- The laws of `plan_writer`.
pub mod Sums
pub mod Gathers
pub mod Parts
pub mod Measures
pub mod Lengths
pub mod Lays
pub mod Puts
pub mod Queueing
pub mod Writes
pub mod Plans
