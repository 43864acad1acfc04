pub mod Chains
pub mod Scopes
pub mod Prefix
pub mod Bound
