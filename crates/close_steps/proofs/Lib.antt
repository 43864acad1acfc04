pub mod Found
pub mod Lowering
