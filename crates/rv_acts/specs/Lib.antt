pub mod Emitted
pub mod Fine
pub mod Act
pub mod Trip
pub mod Laws
