-- The laws of `entry_points`.
pub mod Opening
pub mod Generating
pub mod Bundling
pub mod Running
pub mod Planning
pub mod Passing
pub mod Reporting
