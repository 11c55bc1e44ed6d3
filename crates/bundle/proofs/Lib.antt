-- The laws of `bundle`.
pub mod Walks
pub mod Steps
pub mod Backs
pub mod Coded
pub mod Parts
pub mod Each
pub mod Rounds
pub mod Faults
pub mod Lying
pub mod Numbers
