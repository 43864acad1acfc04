pub mod Uses
pub mod Sane
pub mod Flow
pub mod Laws
