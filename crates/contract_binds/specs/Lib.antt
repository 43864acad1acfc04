pub mod Binds
pub mod Law
