pub mod Walk
pub mod Contract
