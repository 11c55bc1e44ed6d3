-- The laws of `bundle_writer`.
pub mod Judging
pub mod Puts
pub mod Plain
pub mod Copying
pub mod Valued
pub mod Written
