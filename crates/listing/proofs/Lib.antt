-- The laws of `listing`.
pub mod Flat
