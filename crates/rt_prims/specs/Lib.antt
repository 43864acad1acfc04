pub mod Lines
pub mod Ends
pub mod Strings
pub mod Outside
pub mod Equality
pub mod Text
