pub mod Lists
pub mod Allows
pub mod Fits
pub mod Texts
pub mod Forms
pub mod Terms
pub mod Unfold
pub mod Owned
