pub mod Counting
pub mod Tasks
pub mod Run
pub mod Counted
