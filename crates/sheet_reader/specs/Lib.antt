-- The definitions of `sheet_reader`.
pub mod Answers
pub mod Scanning
