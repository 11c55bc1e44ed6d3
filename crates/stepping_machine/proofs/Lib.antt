-- The laws of `stepping_machine`.
pub mod Packing
pub mod Moves
pub mod Chosen
pub mod Told
pub mod Going
pub mod Raising
pub mod Loading
pub mod Fresh
pub mod Opening
pub mod Starting
