pub mod Ranges
pub mod Law
