pub mod Set
pub mod Text
pub mod Decoding
pub mod inside
