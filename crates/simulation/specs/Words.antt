-- The words of what can be reached, and what pays for them.
use Rattle.std.specs.Prelude.{◌≡◌, ◌≢◌, ℕ, ◌+◌, ◌*◌, ◌≤◌, List, [], ◌∷◌, Option, Some, None, slice_get, true}
use Rattle.smlc_base.specs.declared.point.Point.{Point}
use Rattle.simulation.specs.Blocks.{Kind, Closure, Frame, Datum, ClassRecord, SpillRecord, Inside, Block, IsAmong, IsPrefix, points_of, StandsAt, Reach}
use Rattle.simulation.specs.Runs.{Run, seen}
use Rattle.smlc_base.specs.Points.{is_label}
use Rattle.simulation.specs.Keeps.{AllNamed, IsNthPass}

-- no element stands twice
abbrev pub IsDistinct : {X : Type 0} → List X → Type 0
IsDistinct [] = Unit {0}
IsDistinct (x ∷ xs) = (IsAmong x xs → ⊥) × IsDistinct xs

-- the sum of the weights
abbrev pub weight : {X : Type 0} → (X → ℕ) → List X → ℕ
weight w [] = 0
weight w (x ∷ xs) = w x + weight w xs

-- what lies inside a block is counted with it
abbrev pub kind_words : Kind → ℕ → ℕ
kind_words (Closure p) n = n
kind_words (Frame ps) n = n
kind_words Datum n = n
kind_words ClassRecord n = n
kind_words SpillRecord n = n
kind_words Inside n = 0

abbrev pub block_words : Option Block → ℕ
block_words None = 0
block_words (Some x) = kind_words x.kind x.words

abbrev pub words_at : List Block → ℕ → ℕ
words_at memory a = block_words (slice_get memory a)

-- the blocks that can be reached have n words
pub record HasWords (memory : List Block) (roots : List ℕ) (n : ℕ) : Type 0 where
  pub addresses : List ℕ
  pub distinct : IsDistinct addresses
  pub reached : (a : ℕ) → IsAmong a addresses → Reach memory roots a × ((x : Block) × StandsAt memory a x)
  pub all : (a : ℕ) (x : Block) → Reach memory roots a → StandsAt memory a x → IsAmong a addresses
  pub sum : weight (words_at memory) addresses ≡ n

-- the blocks that stand, but for spill records, have n words
pub record HasMade (memory : List Block) (n : ℕ) : Type 0 where
  pub addresses : List ℕ
  pub distinct : IsDistinct addresses
  pub stand : (a : ℕ) → IsAmong a addresses → (x : Block) × StandsAt memory a x × (x.kind ≢ SpillRecord)
  pub all : (a : ℕ) (x : Block) → StandsAt memory a x → x.kind ≢ SpillRecord → IsAmong a addresses
  pub sum : weight (words_at memory) addresses ≡ n

-- class records that stand at these addresses, each named by the block
pub record AreNamed (memory : List Block) (x : Block) (records : List ℕ) : Type 0 where
  pub distinct : IsDistinct records
  pub named : (r : ℕ) → IsAmong r records → IsAmong r x.fields
  pub stand : (r : ℕ) → IsAmong r records → (y : Block) × StandsAt memory r y × (y.kind ≡ ClassRecord)

-- Of these addresses, each closure or frame, with the class records that it names, has no more words than are charged to its point.
pub record IsCharged (charge : Point → ℕ) (memory : List Block) (From : ℕ → Type 0) : Type 0 where
  pub charged : (a : ℕ) (x : Block) (p : Point) (records : List ℕ) → From a → StandsAt memory a x → IsAmong p (points_of x.kind) → AreNamed memory x records → x.words + weight (words_at memory) records ≤ charge p
  -- and none is without a point
  pub pointed : (a : ℕ) (x : Block) → From a → StandsAt memory a x → (x.kind ≡ Frame []) → ⊥

-- n words, k times over, pay for what is charged to the points of all blocks at these addresses, and for the data there
pub record Affords (k : ℕ) (charge : Point → ℕ) (memory : List Block) (Into : ℕ → Type 0) (n : ℕ) : Type 0 where
  -- what is set aside at each address
  pub share : ℕ → ℕ
  pub addresses : List ℕ
  pub all : (a : ℕ) (x : Block) → Into a → StandsAt memory a x → IsAmong a addresses
  pub datum : (a : ℕ) (x : Block) → IsAmong a addresses → StandsAt memory a x → x.kind ≡ Datum → x.words ≤ k * share a
  pub charges : (a : ℕ) (x : Block) → IsAmong a addresses → StandsAt memory a x → weight charge (points_of x.kind) ≤ k * share a
  pub sum : weight share addresses ≤ n

-- At the i-th entry of each label the words that can be reached are at most k times the words that pay, where a passes it for the i-th time.
abbrev pub ReachIsPaid : Run → Run → Type 0
ReachIsPaid a b =
    (p : Point) (i m n k small large : ℕ) (charge : Point → ℕ) → is_label b.labels p ≡ true → IsNthPass a p i m → IsNthPass b p i n → HasWords (b.memory n) (b.roots n) small → IsCharged charge (b.memory n) (Reach (b.memory n) (b.roots n)) → Affords k charge (a.memory m) (Reach (a.memory m) (a.roots m)) large → small ≤ k * large

-- any address
abbrev pub Any : ℕ → Type 0
Any a = Unit {0}

-- At each moment at which b's class records are named, the words that b has made, but for spill records, are at most k times the words
-- that pay for what a has made by a moment that isn't past a's next pass.
abbrev pub MakingIsPaid : Run → Run → Type 0
MakingIsPaid a b =
    (n : ℕ) → AllNamed (b.memory n) → (m : ℕ) × IsPrefix (seen b.labels a m) (seen b.labels b n) × ((k small large : ℕ) (charge : Point → ℕ) → HasMade (b.memory n) small → IsCharged charge (b.memory n) Any → Affords k charge (a.memory m) Any large → small ≤ k * large)
