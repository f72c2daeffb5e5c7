pub mod Flat
pub mod Ends
pub mod Stacked
