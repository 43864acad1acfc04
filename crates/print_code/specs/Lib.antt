pub mod Code
pub mod Prints
pub mod Plain
pub mod Reading
pub mod Laws
