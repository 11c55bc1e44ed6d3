-- The laws of `sheet_writer`.
pub mod Stores
