pub mod Fair
pub mod Carried
pub mod Words
pub mod Slim
