pub mod Rows
pub mod Copies
pub mod Left
pub mod Meets
pub mod Bound
pub mod Gives
pub mod Principal
pub mod Settled
pub mod Final
pub mod Longer
mod Cases
