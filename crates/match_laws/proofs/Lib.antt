pub mod Fits
pub mod Meeting
pub mod Shaped
pub mod Canonical
pub mod Suited
pub mod ByType
