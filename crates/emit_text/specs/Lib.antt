pub mod Labels
pub mod Text
pub mod Bound
pub mod Begun
