pub mod Around
pub mod Allowed
pub mod Slim
