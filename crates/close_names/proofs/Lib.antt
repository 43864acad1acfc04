pub mod Pigeons
pub mod Pointed
pub mod Standing
