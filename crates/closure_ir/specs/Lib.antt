pub mod Words
pub mod Code
pub mod Program
pub mod Kept
pub mod Answers
pub mod Step
pub mod Run
pub mod Order
