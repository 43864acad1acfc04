-- Blocks of strings, as bytes: a header with the length in bytes, then the bytes, and zeros up to a multiple of 8.
use Rattle.std.specs.Prelude.{◌≡◌, ℕ, ◌+◌, ◌*◌, ◌/◌, ◌%◌, ◌<◌, ◌≤◌, ◌⊎◌, List, length, get_or}
use Rattle.rv_acts.specs.Emitted.{Emitted}
use Rattle.rv_acts.specs.Fine.{Fine}
use Rattle.rv_acts.specs.Trip.{WordIs}

-- the words behind the header of a string of so many bytes
abbrev pub string_words : ℕ → ℕ
string_words n = (n + 7) / 8

-- a string of these bytes stands at x
pub record StringAt (m : ℕ → ℕ) (x : ℕ) (bs : List ℕ) : Type 0 where
  pub header : WordIs m x (2 + 4294967296 * length bs)
  pub bytes : (j : ℕ) → j < 8 * string_words (length bs) → m (x + 8 + j) ≡ get_or bs j 0

-- it lies among the data, or in the arena below a place, at a multiple of 8
pub record StringIn (I : Emitted) (top : ℕ) (m : ℕ → ℕ) (x : ℕ) (bs : List ℕ) : Type 0 where
  pub aligned : x % 8 ≡ 0
  pub here : StringAt m x bs
  pub small : (j : ℕ) → get_or bs j 0 < 256
  pub place : ((I.place ≤ x) × (x + 8 + 8 * string_words (length bs) ≤ I.place + length I.literals)) ⊎ ((I.entries.arena ≤ x) × (x + 8 + 8 * string_words (length bs) ≤ top))

-- nothing was read or written
pub record SameOutside (a b : Fine) : Type 0 where
  pub input : b.input ≡ a.input
  pub out : b.out ≡ a.out
  pub err : b.err ≡ a.err
  pub cuts : b.cuts ≡ a.cuts
