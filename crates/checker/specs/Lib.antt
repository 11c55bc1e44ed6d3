-- The definitions of `checker`.
pub mod Checker
pub mod Verdicts
pub mod Flat
