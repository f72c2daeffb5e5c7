pub mod Axes
pub mod Selections
mod Rotations
pub mod Fronts
pub mod Joinings
mod Catenations
pub mod Rests
pub mod Digits
mod Residues
pub mod Places
mod Masks
pub mod Leading
mod Assignments
