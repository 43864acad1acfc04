-- Code that stands at a place of the text.
use Rattle.std.specs.Prelude.{◌≡◌, ℕ, suc, List, [], ◌∷◌, Some, slice_get}
use Rattle.rv_isa.specs.declared.word.Ins.{Ins}

-- these instructions stand one after another from place n on
abbrev pub Stands : List Ins → ℕ → List Ins → Type 0
Stands code n [] = Unit {0}
Stands code n (i ∷ is) = (slice_get code n ≡ Some i) × Stands code (suc n) is
