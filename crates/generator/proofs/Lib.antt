-- The laws of `generator`.
pub mod Steps
pub mod Fills
pub mod Stores
pub mod Ranges
pub mod Readable
