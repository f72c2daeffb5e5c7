pub mod Display
pub mod Formatted
pub mod inside
pub mod Examples
