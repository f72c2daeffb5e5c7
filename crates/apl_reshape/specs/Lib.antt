pub mod Reshape
pub mod Take
pub mod Catenate
pub mod inside
