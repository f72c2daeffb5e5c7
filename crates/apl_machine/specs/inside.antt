pub mod Callers
pub mod Leaving
pub mod Locals
pub mod Next
pub mod Paces
pub mod Stretches
pub mod Traces
