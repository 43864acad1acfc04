pub mod Cited
pub mod Schemes
pub mod Meets
pub mod Gives
pub mod Principal
pub mod Final
