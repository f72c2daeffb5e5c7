pub mod Folds
pub mod Scans
pub mod Lines
pub mod Chains
pub mod inside
pub mod Order
pub mod Rooms
