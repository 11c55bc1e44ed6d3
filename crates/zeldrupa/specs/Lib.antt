-- The definitions of `zeldrupa`.
pub mod Promises
pub mod Stepping
