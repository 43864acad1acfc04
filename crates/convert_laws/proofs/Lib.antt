pub mod Unfold
pub mod ByParts
pub mod Fits
pub mod Ranges
pub mod Bound
pub mod Binds
pub mod Once
