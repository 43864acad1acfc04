pub mod Behaves
pub mod Ends
pub mod Counting
