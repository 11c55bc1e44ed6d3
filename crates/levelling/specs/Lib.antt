-- The definitions of `levelling`.
pub mod Found
pub mod Opened
