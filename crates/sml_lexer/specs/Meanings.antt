-- What a token means.
use Rattle.std.specs.Prelude.{ℕ, ℤ, pos, neg_ℤ, ◌≤ℤ◌, ◌^◌, ◌-◌, List}
use Rattle.sml_lexer.specs.declared.reserved.Reserved.{Reserved}

-- what a token means
pub data Meaning : Type 0 where
  word : Reserved → Meaning
  identifier : List ℕ → Meaning
  symbol : List ℕ → Meaning
  long : List ℕ → Meaning
  type_variable : List ℕ → Meaning
  integer : ℤ → Meaning
  word_constant : Meaning
  real : Meaning
  character : ℕ → Meaning
  text : List ℕ → Meaning

-- an integer constant lies in 63 bits
abbrev pub IsInRange : ℤ → Type 0
IsInRange z = (neg_ℤ (pos (2 ^ 62)) ≤ℤ z) × (z ≤ℤ pos (2 ^ 62 - 1))
