pub mod Effects
pub mod Forms
