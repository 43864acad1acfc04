pub mod Numbers
pub mod Walk
pub mod Tables
pub mod Laws
