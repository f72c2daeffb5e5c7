pub mod Beginning
pub mod Readings
pub mod Slices
pub mod Sources
pub mod Indicated
