pub mod Phrases
pub mod Work
pub mod Settled
pub mod Codes
pub mod Bindings
pub mod Sizes
mod Same
mod Keeps
mod Promoting
pub mod Made
pub mod Spelt
mod Table
pub mod OneCode
