pub mod Heap
pub mod Counted
pub mod Seen
pub mod Run
pub mod Laws
