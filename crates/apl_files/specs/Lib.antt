pub mod Content
pub mod Rights
