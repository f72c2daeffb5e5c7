pub mod Coded
pub mod Lines
