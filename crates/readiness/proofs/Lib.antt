-- The laws of `readiness`.
pub mod Blocks
pub mod Leading
pub mod Counts
pub mod Keying
pub mod Renewing
