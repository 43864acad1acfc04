-- The type names that stand in a type.
use Rattle.std.specs.Prelude.{◌≡◌, ℕ, Bool, true, List}
use Rattle.std.specs.List.{AllByRecursion}
use Rattle.sml_types.specs.Tree.{Head, NameHead, Tree}
use Rattle.sml_types.specs.Poly.{is_in}
use Rattle.sml_types.specs.Escape.{mentions}
use Rattle.sml_unify.specs.Visit.{IsVisit}

-- the least list that has each type name of a type
pub record AreTypeNames (ns : List ℕ) (t : Tree) : Type 0 where
  pub each : mentions ns t ≡ true
  pub least : (ms : List ℕ) → mentions ms t ≡ true → AllByRecursion (λ n. is_in ms n ≡ true) ns

-- the type name of a head is noted
abbrev pub IsNoted : List ℕ → Head → List ℕ → Type 0
IsNoted names (NameHead n) after = (first : Bool) × IsVisit names n first after
IsNoted names _ after = after ≡ names
