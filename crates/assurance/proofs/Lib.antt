-- The laws of `assurance`.
pub mod Holding
pub mod Numbers
pub mod Results
pub mod Calls
pub mod Whole
pub mod Trips
pub mod Choices
pub mod Weighings
pub mod Generated
pub mod Searched
pub mod Giving
pub mod Reported
