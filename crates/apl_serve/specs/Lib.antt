pub mod Refusals
pub mod Requests
pub mod Trees
pub mod Answers
pub mod Serving
pub mod inside
