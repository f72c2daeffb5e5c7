pub mod Standing
pub mod SumsOfProducts
pub mod SmallProducts
pub mod Tables
