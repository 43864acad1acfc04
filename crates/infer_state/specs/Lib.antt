pub mod Variables
pub mod Steps
pub mod Rules
pub mod Names
pub mod Fits
pub mod Typings
