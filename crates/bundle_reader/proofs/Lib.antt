-- The laws of `bundle_reader`.
pub mod Scans
pub mod Told
