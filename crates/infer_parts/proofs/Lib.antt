mod PlainSteps
mod LibraryThere
pub mod CopySteps
pub mod InstanceSteps
mod InstanceLaw
mod EqualityFacts
pub mod Lists
pub mod Slots
pub mod Placed
pub mod Meanings
pub mod Forms
pub mod WrittenSteps
mod HeldFacts
mod RoundFacts
