pub mod Names
pub mod Taken
pub mod Instr
pub mod Code
pub mod Operations
