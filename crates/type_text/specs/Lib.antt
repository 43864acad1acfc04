pub mod Text
pub mod Entries
pub mod Tasks
pub mod Stacks
pub mod Steps
pub mod States
