-- The definitions of `admission`.
pub mod Counting
pub mod Releases
pub mod Messages
pub mod Unsplit
pub mod Fields
pub mod Views
pub mod Notes
pub mod Rules
pub mod Lasts
pub mod Admitted
