pub mod Rotations
pub mod Catenations
pub mod Digits
pub mod Masks
pub mod Assignments
pub mod Lines
