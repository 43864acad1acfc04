-- Numbers, pieces and tables in a file. Numbers are little-endian.
use Rattle.std.specs.Prelude.{ℕ, zero, suc, List, [], ◌∷◌, take, drop}
use Rattle.byteorder.specs.Endian.{little_number}

-- the number in n bytes from a place on
unfoldable pub number : ℕ → ℕ → List ℕ → ℕ
number n at bytes = little_number n (drop at bytes)

-- so many bytes from a place on
abbrev pub piece : ℕ → ℕ → List ℕ → List ℕ
piece at size bytes = take size (drop at bytes)

-- the count records of so many bytes each at the front of the bytes
abbrev pub table : {R : Type 0} → (List ℕ → R) → ℕ → ℕ → List ℕ → List R
table meaning size zero bytes = []
table meaning size (suc count) bytes = meaning bytes ∷ table meaning size count (drop size bytes)
