pub mod Relation
pub mod Simulates
