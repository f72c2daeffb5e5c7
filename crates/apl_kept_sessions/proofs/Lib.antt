pub mod Lasting
pub mod Sessions
pub mod Behind
pub mod Going
