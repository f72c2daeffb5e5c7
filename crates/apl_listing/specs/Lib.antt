pub mod Listing
pub mod Kinds
pub mod inside
pub mod Assembly
