pub mod Needs
pub mod Facts
pub mod Decide
pub mod Convert
pub mod Program
pub mod Fit
pub mod Law
