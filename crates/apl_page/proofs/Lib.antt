pub mod Dues
pub mod Opening
