pub mod Data
pub mod Meaning
pub mod Tests
pub mod Strict
pub mod Alike
