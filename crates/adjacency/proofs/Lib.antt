-- The laws of `adjacency`.
pub mod Frames
pub mod Building
pub mod Walks
