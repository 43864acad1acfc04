pub mod Tally
pub mod Tables
