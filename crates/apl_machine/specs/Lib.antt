pub mod Worlds
pub mod Executing
pub mod inside
pub mod Changes
pub mod Spaces
pub mod Refusals
pub mod Counts
pub mod Standing
