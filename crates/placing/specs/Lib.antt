-- The definitions of `placing`.
pub mod Choosing
pub mod Sets
pub mod Ranks
pub mod Guards
pub mod Turn
