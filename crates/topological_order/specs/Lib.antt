-- The definitions of `topological_order`.
pub mod Words
pub mod Peeling
pub mod Steps
