pub mod Ends
pub mod Laws
pub mod Traits
pub mod Steps
