pub mod FieldLemmas
pub mod KindLemmas
pub mod MakingLemmas
pub mod MarkLemmas
mod NameLemmas
mod NumberLemmas
pub mod OnceLemmas
pub mod OrderLemmas
mod PartLemmas
mod ReverseLemmas
pub mod ScopedLemmas
pub mod Shapes
mod StartLemmas
pub mod TreeLemmas
