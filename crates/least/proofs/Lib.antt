-- The laws of `least`.
pub mod Orders
pub mod Standing
pub mod Following
pub mod Numbering
pub mod Candidates
pub mod Normal
pub mod Arranging
pub mod Best
pub mod Swapping
pub mod Heads
pub mod Pruning
pub mod Bounds
pub mod Leaves
pub mod Keys
pub mod Few
pub mod Runners
