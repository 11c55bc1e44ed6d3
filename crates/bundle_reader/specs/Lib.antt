-- The definitions of `bundle_reader`.
pub mod Answers
pub mod ReadIs
