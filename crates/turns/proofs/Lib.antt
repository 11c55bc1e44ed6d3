-- The laws of `turns`.
pub mod Bounds
pub mod Going
pub mod Turns
pub mod Emptying
pub mod Beginning
