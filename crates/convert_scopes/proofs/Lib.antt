pub mod Tree
pub mod Chains
