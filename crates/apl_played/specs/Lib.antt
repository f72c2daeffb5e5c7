pub mod Playing
pub mod Answering
pub mod Numbers
pub mod Laws
