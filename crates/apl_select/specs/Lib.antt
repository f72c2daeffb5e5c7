pub mod Lined
pub mod Compress
pub mod Indexing
pub mod Assignment
pub mod inside
