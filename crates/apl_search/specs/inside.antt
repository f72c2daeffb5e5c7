pub mod Flat
pub mod Mirrored
pub mod Tables
pub mod Dealt
pub mod Rows
