pub mod Grow
pub mod Uses
pub mod Values
pub mod Steps
pub mod Primitives
pub mod Nodes
pub mod Runs
pub mod Worked
