pub mod Answers
pub mod Numbers
pub mod Places
pub mod Spelling
pub mod Texts
