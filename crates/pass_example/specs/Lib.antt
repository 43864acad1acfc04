pub mod Frames
pub mod Closures
pub mod Lower
