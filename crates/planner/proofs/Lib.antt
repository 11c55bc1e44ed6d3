-- The laws of `planner`.
pub mod Ready
pub mod Choosing
pub mod Schedules
pub mod Unpacking
pub mod Times
pub mod Finishes
pub mod Amending
pub mod Flat
pub mod Same
