-- The laws of `machine`.
pub mod Steps
pub mod Runs
pub mod Choices
pub mod Kept
pub mod Orders
pub mod Near
pub mod Early
pub mod Flat
