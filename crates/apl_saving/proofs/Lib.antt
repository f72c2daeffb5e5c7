pub mod Pairs
pub mod InSet
pub mod Numbered
pub mod Letters
pub mod Listings
pub mod Read
