-- The definitions of `plan_writer`.
pub mod Bytes
pub mod Laid
pub mod Queues
pub mod Scheduled
pub mod Written
