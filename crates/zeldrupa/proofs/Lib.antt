-- The laws of `zeldrupa`.
pub mod Gives
pub mod States
