-- The definitions of `bundle_writer`.
pub mod Whole
pub mod Writes
pub mod Copies
pub mod Judges
