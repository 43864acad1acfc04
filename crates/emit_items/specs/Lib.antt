pub mod Items
pub mod Constants
pub mod Reading
pub mod Making
pub mod Primitives
pub mod Tests
pub mod Ends
pub mod Body
