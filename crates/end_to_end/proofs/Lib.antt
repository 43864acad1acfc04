pub mod Derived
pub mod Source
