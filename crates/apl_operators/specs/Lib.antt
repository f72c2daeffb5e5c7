pub mod Products
pub mod Places
pub mod inside
pub mod Joints
