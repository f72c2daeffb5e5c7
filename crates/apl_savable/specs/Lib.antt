pub mod Savable
pub mod Promises
pub mod Reached
