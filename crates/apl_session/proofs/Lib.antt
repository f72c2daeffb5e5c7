pub mod Opened
pub mod Events
pub mod Blanks
pub mod Obeyed
pub mod Longer
