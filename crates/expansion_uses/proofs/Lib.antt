pub mod Apart
pub mod Walk
pub mod Whole
