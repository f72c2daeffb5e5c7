pub mod Spelled
pub mod Rules
pub mod Promises
