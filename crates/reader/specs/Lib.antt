-- The definitions of `reader`.
pub mod Whole
