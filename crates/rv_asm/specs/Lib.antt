pub mod Item
pub mod Pair
pub mod Program
pub mod Layout
pub mod Whole
