-- Tables by spelling.
use Rattle.std.specs.Prelude.{ℕ, List, [], ◌∷◌, Option, Some, None, if◌then◌else◌, bytes_eq}
use Rattle.sml_prelude.specs.declared.entry.Entry.{Entry}

-- an entry as a pair
abbrev pub row : {T : Type 0} → Entry T → List ℕ × T
row e = (e.text.now, e.meaning)

-- what the first row with this spelling has
abbrev pub first_of : {T : Type 0} → List (List ℕ × T) → List ℕ → Option T
first_of [] text = None
first_of (r ∷ rows) text = if bytes_eq r.0 text then Some r.1 else first_of rows text
