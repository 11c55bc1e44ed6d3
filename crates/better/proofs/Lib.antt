-- The laws of `better`.
pub mod Bridges
pub mod Fronts
pub mod Chains
pub mod Running
pub mod Ranking
pub mod Handing
