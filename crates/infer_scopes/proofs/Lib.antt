pub mod ChainFacts
pub mod ScopeFacts
pub mod BoundFacts
pub mod PrefixFacts
pub mod StepFacts
pub mod Laws
pub mod OpenLaws
