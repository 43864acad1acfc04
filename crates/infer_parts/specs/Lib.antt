pub mod Plain
pub mod LibraryRows
pub mod Copies
pub mod Instances
pub mod Segments
pub mod Written
pub mod Held
pub mod Rounds
