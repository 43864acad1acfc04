mod Formats
mod Constants
mod Reading
mod Short
mod Making
mod Primitives
mod Tests
mod Ends
pub mod Bodies
