pub mod Code
pub mod Program
pub mod Kept
pub mod Arena
pub mod Step
pub mod Run
