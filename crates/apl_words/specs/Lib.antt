pub mod Arguments
pub mod Planning
