-- The numbers that a walk has come to.
use Rattle.std.specs.Prelude.{◌≡◌, ℕ, Bool, true, false, List, [], ◌∷◌, ◌++◌}
use Rattle.sml_unify.specs.Steps.{logged}

-- whether a number comes for the first time: then it is put last
abbrev pub IsVisit : List ℕ → ℕ → Bool → List ℕ → Type 0
IsVisit seen n true after = (logged seen n ≡ false) × (after ≡ seen ++ n ∷ [])
IsVisit seen n false after = (logged seen n ≡ true) × (after ≡ seen)
