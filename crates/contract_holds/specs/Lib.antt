pub mod Open
pub mod Holds
pub mod Fits
pub mod Turn
pub mod Law
