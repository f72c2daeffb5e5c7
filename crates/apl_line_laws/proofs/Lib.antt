pub mod Computed
mod Labels
