pub mod Stand
pub mod Pair
pub mod Route
pub mod Laws
pub mod Start
