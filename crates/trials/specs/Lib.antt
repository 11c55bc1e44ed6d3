-- The definitions of `trials`.
pub mod Records
