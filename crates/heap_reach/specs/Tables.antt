-- What a counter shows: for how many words of the arena it has tables, and how often each label was entered.
use Rattle.std.specs.Prelude.{ℕ, List}

pub record Tables : Type 0 where
  pub words : ℕ
  pub counts : List ℕ
