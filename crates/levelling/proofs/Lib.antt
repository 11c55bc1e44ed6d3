-- The laws of `levelling`.
pub mod Spreads
pub mod Ends
pub mod Opens
