pub mod Emitted
pub mod Ways
pub mod Names
