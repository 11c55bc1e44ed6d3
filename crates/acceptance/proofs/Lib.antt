-- The laws of `acceptance`.
pub mod Blocks
pub mod Written
pub mod Running
pub mod Planned
