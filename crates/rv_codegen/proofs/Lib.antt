pub mod Lengths
pub mod Images
mod Filled
mod Table
