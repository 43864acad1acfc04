pub mod Trees
pub mod Going
pub mod Uses
