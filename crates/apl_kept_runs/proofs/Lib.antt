mod Kept
mod Left
