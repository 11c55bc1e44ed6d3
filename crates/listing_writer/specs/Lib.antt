-- The definitions of `listing_writer`.
pub mod Lines
pub mod Listed
