mod Entering
mod NoNumbers
mod NumbersRead
mod Passed
pub mod Marks
pub mod Rows
mod OfPrimitives
mod Kept
mod Slotted
