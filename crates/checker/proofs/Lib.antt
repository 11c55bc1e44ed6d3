-- The laws of `checker`.
pub mod Accepted
pub mod Verdicts
pub mod Closing
pub mod Areas
pub mod Opening
pub mod Flat
