pub mod Pieces
pub mod Workspaces
pub mod Taken
pub mod Restored
pub mod Making
pub mod Promises
