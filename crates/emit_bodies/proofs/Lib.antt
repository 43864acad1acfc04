pub mod Testing
pub mod Laws
pub mod Weighing
pub mod Pushed
pub mod Onward
pub mod Frames
