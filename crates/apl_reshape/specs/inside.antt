pub mod Asked
pub mod Rows
pub mod Vectors
pub mod Taking
