pub mod Refusals
pub mod Trees
pub mod Fitting
pub mod Json
pub mod Reading
