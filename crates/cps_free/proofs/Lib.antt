pub mod Sets
pub mod Steps
pub mod Unfold
pub mod Table
