pub mod Alike
pub mod Letters
pub mod Meant
pub mod Holds
pub mod Ways
pub mod Pointwise
pub mod StrictSame
