-- The definitions of `search`.
pub mod Codes
pub mod Laying
pub mod Judging
pub mod Keeping
pub mod Walking
pub mod Whole
