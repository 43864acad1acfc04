-- How the blocks of a closed machine lie in the arena of the placed one.
use Rattle.std.specs.Prelude.{◌≡◌, ◌<◌, ℕ, ℤ, List, [], ◌∷◌, length, Some, slice_get}
use Rattle.closure_ir.specs.declared.operand.Static.{Static}
use Rattle.closure_ir.specs.Words.{Word, Num, At, Fixed, Code, Cell}
use Rattle.placed_ir.specs.Arena.{Slot, Held}

-- the same word, where block a stands at the word that `homes` has at place a
pub data Same (homes : List ℕ) : Word → Word → Type 0 where
  same_num : (n : ℤ) → Same homes (Num n) (Num n)
  same_at : (a w : ℕ) → slice_get homes a ≡ Some w → Same homes (At a) (At w)
  same_fixed : (s : Static) → Same homes (Fixed s) (Fixed s)
  same_code : (l : ℕ) → Same homes (Code l) (Code l)

pub data SameAll (homes : List ℕ) : List Word → List Word → Type 0 where
  none_same : SameAll homes [] []
  more_same : (u v : Word) (us vs : List Word) → Same homes u v → SameAll homes us vs → SameAll homes (u ∷ us) (v ∷ vs)

-- block a is c, and stands at its word with the same fields
pub record Lies (homes : List ℕ) (slots : List Slot) (a : ℕ) (c : Cell) : Type 0 where
  pub word : ℕ
  pub home : slice_get homes a ≡ Some word
  pub fields : List Word
  pub stands : slice_get slots word ≡ Some (Held (record { sort = c.sort; fields = fields }))
  pub same : SameAll homes c.fields fields

-- each block lies in the arena, which has no others, in the order in which they were made
pub record Heap (homes : List ℕ) (cells : List Cell) (slots : List Slot) : Type 0 where
  pub cell : (a : ℕ) (c : Cell) → slice_get cells a ≡ Some c → Lies homes slots a c
  pub only : (w : ℕ) (d : Cell) → slice_get slots w ≡ Some (Held d) → (a : ℕ) × (slice_get homes a ≡ Some w) × (a < length cells)
  pub rising : (a b w v : ℕ) → a < b → slice_get homes a ≡ Some w → slice_get homes b ≡ Some v → w < v
  pub as_long : length homes ≡ length cells
