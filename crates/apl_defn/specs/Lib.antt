pub mod Definitions
pub mod Headers
pub mod Reading
pub mod Defining
pub mod Listing
pub mod Defines
pub mod Blanks
pub mod Refusals
