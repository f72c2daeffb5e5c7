pub mod Keeping
pub mod Names
pub mod Numbers
pub mod Promises
pub mod Standing
pub mod Indicator
pub mod inside
