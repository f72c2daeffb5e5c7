pub mod Laying
pub mod Reached
pub mod Single
pub mod Written
pub mod Numbered
pub mod Masks
