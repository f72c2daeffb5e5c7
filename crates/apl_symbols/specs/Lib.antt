pub mod Primitives
pub mod Glyphs
pub mod Padded
pub mod Names
pub mod Short
pub mod SystemNames
