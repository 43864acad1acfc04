pub mod Good
pub mod Below
pub mod Ordered
pub mod Kept
