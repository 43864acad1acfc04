pub mod Loads
pub mod Loops
pub mod Rooms
pub mod Moves
