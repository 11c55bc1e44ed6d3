-- The definitions of `assurance`.
pub mod Trials
pub mod Demand
pub mod GivingBack
pub mod RoundTrips
pub mod Choosing
pub mod Formulas
pub mod Loads
pub mod LeastTimes
pub mod Drifts
