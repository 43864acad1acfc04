pub mod Classes
pub mod Weight
pub mod Factor
