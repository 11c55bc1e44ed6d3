-- The definitions of `adjacency`.
pub mod Frames
pub mod Chains
