pub mod Vars
pub mod Fronts
pub mod Law
