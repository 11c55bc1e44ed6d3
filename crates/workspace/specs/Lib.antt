-- The definitions of `workspace`.
pub mod Area
pub mod Found
