-- The laws of `topological_order`.
pub mod Frames
pub mod Places
pub mod Pushes
pub mod Lights
pub mod Walks
pub mod Levels
pub mod Orders
pub mod Turns
pub mod Starts
