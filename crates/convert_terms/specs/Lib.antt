pub mod Leaves
pub mod Terms
