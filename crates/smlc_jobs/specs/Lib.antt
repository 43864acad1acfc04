pub mod Write
pub mod Outcome
pub mod Texts
pub mod Load
pub mod Held
pub mod Job
pub mod Execute
pub mod Runs
