-- The definitions of `arrivals`.
pub mod Layout
pub mod Kept
pub mod Lanes
pub mod Reach
pub mod Steps
