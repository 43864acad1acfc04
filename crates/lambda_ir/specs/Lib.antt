pub mod Program
pub mod Free
pub mod Kept
pub mod Tests
pub mod State
pub mod Step
pub mod Proper
pub mod Run
