-- Lists with the same members.
use Rattle.std.specs.Prelude.{◌≡◌, ℕ, List}
use Rattle.place_laws.specs.Live.{is_in}

abbrev pub AreSame : List ℕ → List ℕ → Type 0
AreSame xs ys = (z : ℕ) → is_in z xs ≡ is_in z ys
