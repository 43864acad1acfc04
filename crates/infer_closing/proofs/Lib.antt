pub mod Trees
pub mod Laws
mod VarFacts
mod FoundFacts
mod LeftFacts
mod GrowFacts
pub mod Kept
mod CloseFacts
mod MatchFacts
