-- What a store has before and after a call.
use Rattle.std.specs.Prelude.{ℕ, ◌≡◌, ◌≢◌, ◌<◌, List, length, map, take, Option, Some}
use Rattle.smlc_edge.specs.Edge.{Files}

-- the bytes are those that the store has under the name, where it tells them
abbrev pub IsHeld : Option Files → List ℕ → List ℕ → Type 0
IsHeld told name file = (files : Files) → told ≡ Some files → files name ≡ Some file

-- so it is for each of the names in order
abbrev pub AreHeld : Option Files → List (List ℕ) → List (List ℕ) → Type 0
AreHeld told names contents = (files : Files) → told ≡ Some files → map files names ≡ map (λ file. Some file) contents

-- the files before the one of number i, from 0 on, are there
pub record LoadsUpTo (told : Option Files) (names : List (List ℕ)) (i : ℕ) : Type 0 where
  pub within : i < length names
  pub contents : List (List ℕ)
  pub held : AreHeld told (take i names) contents

-- the store has what it had, where it tells it
abbrev pub KeepsFiles : Option Files → Option Files → Type 0
KeepsFiles told now = (files : Files) → told ≡ Some files → now ≡ Some files

-- it has what it had under every other name
abbrev pub ChangesOnly : Option Files → Option Files → List ℕ → Type 0
ChangesOnly told now name = (files : Files) → told ≡ Some files → (files' : Files) × (now ≡ Some files') × ((other : List ℕ) → other ≢ name → files' other ≡ files other)

-- and these bytes under this one
abbrev pub HasSaved : Option Files → Option Files → List ℕ → List ℕ → Type 0
HasSaved told now name bytes = (files : Files) → told ≡ Some files → (files' : Files) × (now ≡ Some files') × (files' name ≡ Some bytes) × ((other : List ℕ) → other ≢ name → files' other ≡ files other)
