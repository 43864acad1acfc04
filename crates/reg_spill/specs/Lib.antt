pub mod Frames
pub mod Homed
pub mod Leads
pub mod Spills
