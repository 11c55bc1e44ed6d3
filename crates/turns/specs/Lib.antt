-- The definitions of `turns`.
pub mod Turns
