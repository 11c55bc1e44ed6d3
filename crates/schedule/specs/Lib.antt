-- The definitions of `schedule`.
pub mod Layout
