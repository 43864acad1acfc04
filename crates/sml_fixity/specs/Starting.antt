-- The fixity that a program starts with.
use Rattle.std.specs.Prelude.{ℕ, ◌+◌, Bool, true, false, bytes_eq, codes, length, unwrap_or, List, [], ◌∷◌}
use Rattle.std.specs.List.{position_from}
use Rattle.sml_tree.specs.declared.status.Status.TheVariants as status
use Rattle.sml_syntax.specs.declared.forms.Directive.{Directive}
use Rattle.sml_syntax.specs.Fixity.{Fix}

-- the number of a text among the names; one that isn't among them has a number behind them
abbrev pub number_of : List (List ℕ) → ℕ → List ℕ → ℕ
number_of names i text = unwrap_or (position_from (λ t. bytes_eq t text) 0 names) (length names + i)

abbrev pub operator : List (List ℕ) → ℕ → List ℕ → ℕ → Bool → Directive
operator names i text level right = record { name = record { 0 = number_of names i text }; status = status.Infix level right }

-- `=` is no entry
abbrev pub starting : List (List ℕ) → Fix
starting names =
    operator names 0 (codes "*") 7 false
    ∷ operator names 1 (codes "/") 7 false
    ∷ operator names 2 (codes "div") 7 false
    ∷ operator names 3 (codes "mod") 7 false
    ∷ operator names 4 (codes "+") 6 false
    ∷ operator names 5 (codes "-") 6 false
    ∷ operator names 6 (codes "^") 6 false
    ∷ operator names 7 (codes "::") 5 true
    ∷ operator names 8 (codes "@") 5 true
    ∷ operator names 9 (codes "<>") 4 false
    ∷ operator names 10 (codes ">") 4 false
    ∷ operator names 11 (codes ">=") 4 false
    ∷ operator names 12 (codes "<") 4 false
    ∷ operator names 13 (codes "<=") 4 false
    ∷ operator names 14 (codes ":=") 3 false
    ∷ operator names 15 (codes "o") 3 false
    ∷ operator names 16 (codes "before") 0 false
    ∷ []
