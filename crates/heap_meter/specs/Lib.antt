pub mod Entries
pub mod Meter
