pub mod Fast
pub mod Places
