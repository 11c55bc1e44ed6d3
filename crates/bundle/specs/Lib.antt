-- The definitions of `bundle`.
pub mod Bundle
pub mod Sizes
pub mod Format
pub mod Writing
pub mod Fits
pub mod Counts
pub mod Lies
pub mod Kinds
