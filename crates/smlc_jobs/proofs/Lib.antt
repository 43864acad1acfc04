pub mod Written
pub mod Held
pub mod Faults
pub mod Running
pub mod Asked
