-- What a state reaches, its words and its census.
use Rattle.std.specs.Prelude.{◌≡◌, true, false, ℕ, zero, suc, Bool, List, [], ◌∷◌, Option, Some, None, length, slice_get, sum_by, count_by, cond}
use Rattle.smlc_base.specs.declared.point.Point.{Point}
use Rattle.sml_tree.specs.declared.bare.Bare.{Bare}
use Rattle.sml_tree.specs.Sets.{has, union, union_over}
use Rattle.simulation.specs.Blocks.{Block, points_of, Reach}
use Rattle.smlc_base.specs.Points.{is_label}
use Rattle.simulation.specs.Stores.{is_datum}
use Rattle.simulation.specs.Words.{weight, words_at, HasWords}
use Rattle.sml_def.specs.Run.{run}

abbrev pub some_fields : Option Block → List ℕ
some_fields (Some b) = b.fields
some_fields None = []

-- the addresses as an ascending set
abbrev pub as_set : List ℕ → List ℕ
as_set xs = union_over (λ a. a ∷ []) xs

-- the addresses that the block at an address names
abbrev pub fields_at : List Block → ℕ → List ℕ
fields_at memory a = as_set (some_fields (slice_get memory a))

-- what is found after n more rounds, each of which adds the fields of all that is found
abbrev pub rounds : ℕ → List Block → List ℕ → List ℕ
rounds zero memory found = found
rounds (suc n) memory found = rounds n memory (union found (union_over (fields_at memory) found))

-- the addresses that the roots reach: as many rounds as there are blocks are enough
abbrev pub reached : List Block → List ℕ → List ℕ
reached memory roots = rounds (length memory) memory (as_set roots)

-- the source words of what is reached
abbrev pub words : List Block → List ℕ → ℕ
words memory roots = weight (words_at memory) (reached memory roots)

-- ---- Census

abbrev pub stands_for : Point → Option Block → Bool
stands_for p (Some b) = is_label (points_of b.kind) p
stands_for p None = false

abbrev pub words_if_datum : Option Block → ℕ
words_if_datum (Some b) = cond (is_datum b.kind) b.words 0
words_if_datum None = 0

-- how many closures and frames of each point are reached, and the words of all other blocks
pub record Census : Type 0 where
  pub at_point : Point → ℕ
  pub data_words : ℕ

abbrev pub census : List Block → List ℕ → Census
census memory roots = record {
  at_point = λ p. count_by (λ a. stands_for p (slice_get memory a)) (reached memory roots);
  data_words = sum_by (λ a. words_if_datum (slice_get memory a)) (reached memory roots);
}

-- ---- The laws

-- what is computed is the least set that has the roots and is closed under fields
pub record IsLeastReach (memory : List Block) (roots : List ℕ) : Type 0 where
  pub found : (a : ℕ) → has (reached memory roots) a ≡ true → Reach memory roots a
  pub all : (a : ℕ) → Reach memory roots a → has (reached memory roots) a ≡ true

-- so it is in each state of a run
abbrev pub ReachIsLeast : Type 0
ReachIsLeast = (p : Bare) (input : List ℕ) (n : ℕ) → IsLeastReach ((run p input).memory n) ((run p input).roots n)

-- and in each state of a run what is reached has these words
abbrev pub WordsAreReached : Type 0
WordsAreReached =
    (p : Bare) (input : List ℕ) (n : ℕ) → HasWords ((run p input).memory n) ((run p input).roots n) (words ((run p input).memory n) ((run p input).roots n))
