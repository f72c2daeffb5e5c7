pub mod Fitting
pub mod Again
pub mod Files
pub mod Refused
