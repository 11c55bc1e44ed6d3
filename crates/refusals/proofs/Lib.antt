-- The laws of `refusals`.
pub mod Results
