pub mod Names
pub mod Rounding
