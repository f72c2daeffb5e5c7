pub mod Functions
pub mod Operands
pub mod Lanes
pub mod Extension
pub mod inside
