pub mod Posed
pub mod Made
pub mod Good
pub mod Asked
pub mod Records
pub mod Annotated
