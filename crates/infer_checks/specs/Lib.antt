pub mod Ending
pub mod Checked
pub mod Bound
pub mod Node
