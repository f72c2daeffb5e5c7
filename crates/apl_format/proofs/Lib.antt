pub mod Joined
pub mod Rows
pub mod Widths
pub mod Sizes
pub mod Shapes
pub mod Lengths
pub mod Texts
pub mod Limits
