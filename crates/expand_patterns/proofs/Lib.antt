pub mod Behind
mod Forced
mod BindLemmas
mod HeadLemmas
pub mod Joining
pub mod Shaped
