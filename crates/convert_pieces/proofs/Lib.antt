pub mod Emits
pub mod Ways
pub mod Tuples
