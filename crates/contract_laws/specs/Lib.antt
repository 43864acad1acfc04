pub mod Contract
pub mod Redex
pub mod Weigh
pub mod Law
