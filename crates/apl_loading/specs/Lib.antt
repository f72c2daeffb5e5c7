pub mod Numbers
pub mod Small
pub mod Refusals
pub mod inside
