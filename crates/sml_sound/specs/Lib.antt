pub mod NeverStuck
pub mod TypedStates
