pub mod Codes
pub mod Writes
pub mod Source
pub mod Functions
pub mod Ends
pub mod Rows
pub mod Handles
pub mod Exceptions
