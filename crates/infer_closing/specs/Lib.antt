pub mod Groups
pub mod Open
pub mod Closing
pub mod Found
pub mod Left
pub mod Settling
