pub mod Entries
pub mod Long
pub mod Text
pub mod Types
pub mod Values
