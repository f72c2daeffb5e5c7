pub mod Desk
pub mod Views
