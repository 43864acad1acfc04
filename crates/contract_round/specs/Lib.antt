pub mod Round
pub mod Law
