pub mod Layout
pub mod Weights
