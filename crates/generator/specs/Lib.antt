-- The definitions of `generator`.
pub mod Draw
pub mod Load
pub mod Filled
pub mod Trials
