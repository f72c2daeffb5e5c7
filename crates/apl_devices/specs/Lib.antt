pub mod Devices
pub mod Tapes
