-- The laws of `listing_writer`.
pub mod Digits
pub mod Puts
pub mod Running
pub mod Parts
pub mod Fits
pub mod Opened
pub mod Settled
