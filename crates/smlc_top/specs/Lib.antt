pub mod Front
pub mod Types
pub mod Plan
pub mod Clause
pub mod Build
