-- The definitions of `sheet`.
pub mod Sheet
pub mod Sizes
pub mod Format
pub mod Writing
pub mod Tables
pub mod Faults
pub mod Hops
