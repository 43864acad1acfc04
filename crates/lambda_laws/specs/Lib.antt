pub mod Make
pub mod Lower
pub mod Ready
pub mod Slim
pub mod Size
pub mod Keeps
