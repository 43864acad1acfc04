pub mod Fixity
pub mod Grammar
pub mod Moves
pub mod Machine
