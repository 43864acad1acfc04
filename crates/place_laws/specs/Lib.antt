pub mod Live
pub mod Place
pub mod Bounds
pub mod Lies
