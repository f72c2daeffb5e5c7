pub mod Maps
pub mod Bound
pub mod Owned
pub mod Ready
pub mod Slots
