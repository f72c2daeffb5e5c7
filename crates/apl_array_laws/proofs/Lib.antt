pub mod Pairs
mod IndexLists
mod FiniteMaps
pub mod Sorting
mod Grades
