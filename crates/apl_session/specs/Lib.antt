pub mod Defining
pub mod Commands
pub mod Events
pub mod Views
pub mod Refusals
