-- The laws of `search`.
pub mod Digits
pub mod Fronts
pub mod Programmes
pub mod Judges
pub mod Keeping
pub mod Steps
pub mod Folds
pub mod Ends
