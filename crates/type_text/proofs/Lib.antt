mod Cases
pub mod Shows
pub mod Walks
pub mod Laws
