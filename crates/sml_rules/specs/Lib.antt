pub mod Terms
pub mod Patterns
pub mod Apply
pub mod Rules
pub mod Agree
