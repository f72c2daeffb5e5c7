pub mod Ends
pub mod Prefixes
pub mod Reach
pub mod Sums
