pub mod Bounds
pub mod Pieces
pub mod Routines
pub mod Started
pub mod Wholes
