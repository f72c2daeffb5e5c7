pub mod Lines
pub mod Mirrored
