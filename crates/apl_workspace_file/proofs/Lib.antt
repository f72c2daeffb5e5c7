pub mod Lists
pub mod Codecs
pub mod Forms
pub mod Files
pub mod OneTree
pub mod Written
