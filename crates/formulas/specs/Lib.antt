-- The definitions of `formulas`.
pub mod Grammar
pub mod Values
pub mod Scanning
pub mod Meaning
pub mod Weights
pub mod Trials
pub mod Parts
