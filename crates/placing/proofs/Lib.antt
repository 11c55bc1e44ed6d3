-- The laws of `placing`.
pub mod Ranks
pub mod Sets
pub mod Ties
pub mod Starts
pub mod Spent
pub mod Due
pub mod Guards
pub mod Steps
pub mod Joins
