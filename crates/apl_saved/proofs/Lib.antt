pub mod Pairs
pub mod StackKinds
pub mod OneWorkspace
pub mod OneFile
