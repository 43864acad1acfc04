pub mod Owes
pub mod Good
