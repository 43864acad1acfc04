pub mod Work
pub mod Unused
pub mod Walk
pub mod Tally
pub mod Context
pub mod Whole
