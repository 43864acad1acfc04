pub mod Compile
pub mod Shape
pub mod Suit
pub mod Law
