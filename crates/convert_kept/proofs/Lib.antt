pub mod Forms
pub mod Terms
pub mod Closed
pub mod Kept
