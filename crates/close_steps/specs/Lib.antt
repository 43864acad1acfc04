pub mod Visible
pub mod Lowered
