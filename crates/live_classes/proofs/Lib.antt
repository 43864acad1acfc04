pub mod Tables
pub mod Grouping
pub mod Among
