-- What a count of the heap counts, on the machine's memory, from the words that registers hold.
use Rattle.std.specs.Prelude.{◌≡◌, ℕ, suc, ◌+◌, ◌*◌, ◌<◌, ◌≤◌, List, length, false, Option, Some, None}
use Rattle.rv_machine.specs.State.{State}
use Rattle.simulation.specs.Blocks.{IsAmong}
use Rattle.simulation.specs.Words.{IsDistinct, weight}
use Rattle.rv_run.specs.Heap.{heap_word, is_string, body_words}

-- the word v points to word j of the arena: a header stands there, and its block ends within the arena
pub record PointsTo (arena words : ℕ) (s : State) (v j : ℕ) : Type 0 where
  pub address : v ≡ arena + 8 * j
  pub header : ℕ
  pub stands : heap_word arena s j ≡ Some header
  pub within : j + suc (body_words header) ≤ words

-- The least set of blocks, by the numbers of their first words, that has those to which the roots point and is closed under fields.
-- The words of a string are no fields.
pub data Reached (arena words : ℕ) (s : State) (roots : List ℕ) : ℕ → Type 0 where
  by_root : (v j : ℕ) → IsAmong v roots → PointsTo arena words s v j → Reached arena words s roots j
  by_field : (i k h v j : ℕ) → Reached arena words s roots i → heap_word arena s i ≡ Some h → is_string h ≡ false → k < body_words h → heap_word arena s (i + suc k) ≡ Some v → PointsTo arena words s v j → Reached arena words s roots j

-- the words of the block with this header
abbrev pub block_size : Option ℕ → ℕ
block_size None = 0
block_size (Some h) = suc (body_words h)

-- they have so many words, and are so many blocks
pub record IsCount (arena words : ℕ) (s : State) (roots : List ℕ) (n blocks : ℕ) : Type 0 where
  pub numbers : List ℕ
  pub distinct : IsDistinct numbers
  pub reached : (j : ℕ) → IsAmong j numbers → Reached arena words s roots j
  pub all : (j : ℕ) → Reached arena words s roots j → IsAmong j numbers
  pub sum : weight (λ j. block_size (heap_word arena s j)) numbers ≡ n
  pub many : length numbers ≡ blocks
