pub mod Parts
pub mod Rounds
pub mod Blocks
pub mod Rotated
pub mod Numbered
pub mod Named
pub mod FromTheEnd
pub mod Blockwise
