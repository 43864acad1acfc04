pub mod ClosedSets
