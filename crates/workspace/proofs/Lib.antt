-- The laws of `workspace`.
pub mod Clearing
pub mod Searches
