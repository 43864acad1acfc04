pub mod Expands
pub mod Forms
pub mod Names
pub mod Opens
