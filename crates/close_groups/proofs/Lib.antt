mod Noted
pub mod Lowering
