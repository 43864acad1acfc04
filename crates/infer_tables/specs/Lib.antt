pub mod Declare
pub mod Checks
pub mod Known
pub mod Meaning
pub mod Group
pub mod Starts
