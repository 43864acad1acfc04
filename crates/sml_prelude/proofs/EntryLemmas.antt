-- Looking up in a table, and what is made of its rows.
use Rattle.std.proofs.Common.{◌≡◌, ℕ, Bool, true, false, List, [], ◌∷◌, Option, Some, refl, map, option_map, ap, ◌∙◌}
use Rattle.std.specs.Prelude.{bytes_eq, if◌then◌else◌}
use Rattle.sml_prelude.specs.Entries.{first_of}

chosen : {T U : Type 0} (f : T → U) (b : Bool) (x : T) (o : Option T) (p : Option U) → option_map f o ≡ p → option_map f (if b then Some x else o) ≡ (if b then Some (f x) else p)
chosen f true x o p h = refl
chosen f false x o p h = h

first_mapped : {T U : Type 0} (f : T → U) (rows : List (List ℕ × T)) (text : List ℕ) → option_map f (first_of rows text) ≡ first_of (map (λ r. (r.0, f r.1)) rows) text
first_mapped f [] text = refl
first_mapped f (r ∷ rows) text = chosen f (bytes_eq r.0 text) r.1 (first_of rows text) (first_of (map (λ r. (r.0, f r.1)) rows) text) (first_mapped f rows text)

pub found_mapped : {T U : Type 0} (f : T → U) (rows : List (List ℕ × T)) (text : List ℕ) (o : Option T) → o ≡ first_of rows text → option_map f o ≡ first_of (map (λ r. (r.0, f r.1)) rows) text
found_mapped f rows text o e = ap (option_map f) e ∙ first_mapped f rows text
