pub mod Bodies
pub mod Group
