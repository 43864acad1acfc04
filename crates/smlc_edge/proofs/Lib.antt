pub mod Clear
pub mod Kept
pub mod Gained
pub mod Places
