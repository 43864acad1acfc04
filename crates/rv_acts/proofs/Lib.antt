pub mod Bytes
pub mod Doing
pub mod Locks
pub mod Trips
pub mod Arena
