pub mod Saved
pub mod Promises
pub mod Numbers
pub mod Refusals
