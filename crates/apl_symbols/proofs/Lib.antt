mod Names
mod Shorts
pub mod Glyphs
