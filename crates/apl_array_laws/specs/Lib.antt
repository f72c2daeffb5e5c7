pub mod IndexLists
pub mod FiniteMaps
pub mod Grades
