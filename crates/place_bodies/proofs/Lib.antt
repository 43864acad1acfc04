pub mod Least
pub mod Alike
pub mod Binds
pub mod Ends
pub mod Unfold
pub mod Whole
pub mod Keeping
