pub mod Kinds
pub mod Effects
pub mod Assigning
pub mod Calling
pub mod Executing
pub mod Frequent
pub mod inside
