pub mod Leaf
pub mod Formed
