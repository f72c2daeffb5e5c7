pub mod Plain
pub mod Pieces
pub mod Opening
pub mod Answering
pub mod Doing
pub mod InTurn
