-- The definitions of `better`.
pub mod Orders
pub mod Ranks
pub mod Choices
pub mod Parts
