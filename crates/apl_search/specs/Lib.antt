pub mod Counted
pub mod Ordered
pub mod Found
pub mod Decoded
pub mod inside
pub mod Encoded
