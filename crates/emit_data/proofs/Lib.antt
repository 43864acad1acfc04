mod Loops
mod Bytes
pub mod Bindings
