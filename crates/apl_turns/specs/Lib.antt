pub mod Turns
pub mod inside
