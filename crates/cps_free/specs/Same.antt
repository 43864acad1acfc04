-- Lists with the same members.
use Rattle.std.specs.Prelude.{◌≡◌, ℕ, List}
use Rattle.sml_tree.specs.Sets.{has}

abbrev pub AreSame : List ℕ → List ℕ → Type 0
AreSame xs ys = (z : ℕ) → has xs z ≡ has ys z
