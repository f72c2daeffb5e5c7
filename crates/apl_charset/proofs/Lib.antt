pub mod Lines
pub mod Members
pub mod Unique
pub mod Decodings
pub mod Digits
pub mod Places
