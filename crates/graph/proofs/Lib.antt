-- The laws of `graph`.
pub mod Reaches
pub mod Ranks
pub mod Plain
pub mod Forms
pub mod Proper
