pub mod Keyed
pub mod Sums
pub mod Best
