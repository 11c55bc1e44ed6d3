-- The definitions of `stepping_machine`.
pub mod Layout
pub mod Words
pub mod Advance
pub mod Represents
pub mod Settling
pub mod Loads
pub mod Starts
