-- The laws of `reader`.
pub mod Widths
