pub mod Forms
pub mod Terms
pub mod Spots
pub mod Paid
pub mod Sites
pub mod Counts
pub mod Points
