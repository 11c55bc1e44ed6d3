-- The laws of `schedule`.
pub mod Rows
pub mod Puts
