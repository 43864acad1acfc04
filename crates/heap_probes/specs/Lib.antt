pub mod Probe
pub mod Lines
pub mod Rules
pub mod Laws
