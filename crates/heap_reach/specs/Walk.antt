-- A walk over the blocks of the arena: which it has found, and how far it has looked into them.
use Rattle.std.specs.Prelude.{◌≡◌, ℕ, suc, ◌+◌, ◌*◌, ◌<◌, ◌≤◌, ◌^◌, List, take, false, Option, Some, None}
use Rattle.rv_machine.specs.State.{State}
use Rattle.simulation.specs.Blocks.{IsAmong}
use Rattle.simulation.specs.Words.{weight}
use Rattle.rv_run.specs.Heap.{heap_word, is_string, body_words}
use Rattle.rv_run.specs.Counted.{PointsTo, Reached, block_size}

-- all addresses of the arena are of 64 bits
abbrev pub HasAddresses : ℕ → ℕ → Type 0
HasAddresses arena words = arena + 8 * words ≤ 2 ^ 64

-- the block to which the word v points, if it points to one
abbrev pub Targets : ℕ → ℕ → State → ℕ → Option ℕ → Type 0
Targets arena words s v (Some j) = PointsTo arena words s v j
Targets arena words s v None = (j : ℕ) → PointsTo arena words s v j → ⊥

-- a root points to block j
abbrev pub IsRoot : ℕ → ℕ → State → List ℕ → ℕ → Type 0
IsRoot arena words s roots j = (v : ℕ) × IsAmong v roots × PointsTo arena words s v j

-- one of n words from word i on points to block j
abbrev pub IsField : ℕ → ℕ → State → ℕ → ℕ → ℕ → Type 0
IsField arena words s i n j = (k : ℕ) × (v : ℕ) × (k < n) × (heap_word arena s (i + k) ≡ Some v) × PointsTo arena words s v j

-- a field of block i points to block j
abbrev pub IsChild : ℕ → ℕ → State → ℕ → ℕ → Type 0
IsChild arena words s i j = (h : ℕ) × (heap_word arena s i ≡ Some h) × (is_string h ≡ false) × IsField arena words s (i + 1) (body_words h) j

-- the block that begins at word i ends within the arena
pub record IsBlock (arena words : ℕ) (s : State) (i : ℕ) : Type 0 where
  pub header : ℕ
  pub stands : heap_word arena s i ≡ Some header
  pub within : i + suc (body_words header) ≤ words

-- What was found is reached, what the roots point to was found, and so was what the first blocks that were found point to.
pub record IsWalked (arena words : ℕ) (s : State) (roots : List ℕ) (done : ℕ) (found : List ℕ) : Type 0 where
  pub reached : (j : ℕ) → IsAmong j found → Reached arena words s roots j
  pub rooted : (j : ℕ) → IsRoot arena words s roots j → IsAmong j found
  pub closed : (i j : ℕ) → IsAmong i (take done found) → IsChild arena words s i j → IsAmong j found

-- the words of these blocks
abbrev pub words_of : ℕ → State → List ℕ → ℕ
words_of arena s numbers = weight (λ j. block_size (heap_word arena s j)) numbers
