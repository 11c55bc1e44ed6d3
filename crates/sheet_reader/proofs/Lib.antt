-- The laws of `sheet_reader`.
pub mod Scans
pub mod Given
pub mod Backs
