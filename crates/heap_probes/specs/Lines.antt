-- Text that is put behind a text.
use Rattle.std.specs.Prelude.{ℕ, ◌≡◌, List, ◌++◌, take, Result, Ok, Err}

-- the text is put behind it, or after an error a part of its front
abbrev pub Puts : {T E : Type 0} → List ℕ → List ℕ → List ℕ → Result T E → Type 0
Puts text old new (Ok u) = new ≡ old ++ text
Puts text old new (Err e) = (n : ℕ) × (new ≡ old ++ take n text)
