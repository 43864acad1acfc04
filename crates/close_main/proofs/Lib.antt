pub mod Sums
pub mod Unfolded
pub mod Filling
pub mod Labels
pub mod Main
