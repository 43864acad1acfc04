pub mod Standing
pub mod Words
pub mod Then
pub mod Saving
pub mod Routing
pub mod Jumping
pub mod Starting
