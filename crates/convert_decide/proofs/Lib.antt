pub mod Down
pub mod Rules
pub mod Begun
pub mod Backwards
