pub mod Given
pub mod Arguments
pub mod Asks
pub mod Laws
