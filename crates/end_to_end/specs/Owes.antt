-- What the last passes owe beside what they keep, of one run: E is the run of the placed program, and M the run of the machine.
use Rattle.std.specs.Prelude.{◌≡◌, ◌⊎◌, ℕ, suc, ◌+◌, ◌*◌, ◌≤◌, List, [], ◌∷◌, ◌++◌, length, Some, codes}
use Rattle.smlc_base.specs.declared.point.Point.{Point}
use Rattle.simulation.specs.Blocks.{Block, SpillRecord, IsAmong, IsPrefix, StandsAt, Reach}
use Rattle.simulation.specs.Runs.{Run, Arena, Uncaught, visible, seen}
use Rattle.simulation.specs.Keeps.{NamesAtOnce}
use Rattle.simulation.specs.Words.{IsDistinct, weight, words_at, HasMade, IsCharged, Affords, Any}

-- the spill records that stand have n words
pub record HasSpills (memory : List Block) (n : ℕ) : Type 0 where
  pub addresses : List ℕ
  pub distinct : IsDistinct addresses
  pub stand : (a : ℕ) → IsAmong a addresses → (x : Block) × StandsAt memory a x × (x.kind ≡ SpillRecord)
  pub all : (a : ℕ) (x : Block) → StandsAt memory a x → x.kind ≡ SpillRecord → IsAmong a addresses
  pub sum : weight (words_at memory) addresses ≡ n

-- what the pass to registers owes of the run of its answer
pub record IsPlaced (charge : Point → ℕ) (spill : ℕ) (E : Run) : Type 0 where
  -- each closure has its layout, and names class records as its plan says
  pub charged : (n : ℕ) → IsCharged charge (E.memory n) Any
  -- a class record is made in one step with the closures that name it
  pub named : NamesAtOnce E
  -- a body makes spill records of so many words at most: one body for each entry, and the first
  pub spilled : (n t : ℕ) → HasSpills (E.memory n) t → t ≤ spill * suc (length (seen E.labels E n))

-- By a moment of E with no more entries before it, E has made n words, of which s are no spill records and t are.
pub record HasRoom (E M : Run) (k n : ℕ) : Type 0 where
  pub at : ℕ
  pub before : IsPrefix (seen M.labels E at) (seen M.labels M k)
  pub kept : ℕ
  pub spilled : ℕ
  pub has_kept : HasMade (E.memory at) kept
  pub has_spilled : HasSpills (E.memory at) spilled
  pub within : n ≤ kept + spilled

-- the line that tells of an uncaught exception of this name
abbrev pub line_of : List ℕ → List ℕ
line_of name = codes "uncaught exception " ++ name ++ 10 ∷ []

-- nothing but a beginning of the line was written on the error stream, and that only where E ends with an uncaught exception
abbrev pub TellsOnly : Run → List ℕ → Type 0
TellsOnly E err = (err ≡ []) ⊎ ((n : ℕ) × (name : List ℕ) × (E.end n ≡ Uncaught name) × IsPrefix err (line_of name))

-- What emission owes of the machine's run: used is the arena words below x8, next those of the record that finds no room, and err what
-- was written on the error stream.
pub record IsEmitted (charge : Point → ℕ) (arena : ℕ) (used next : ℕ → ℕ) (err : ℕ → List ℕ) (E M : Run) : Type 0 where
  pub labels : M.labels ≡ E.labels
  pub charged : (n : ℕ) (p : Point) → visible M.labels (M.pass n) ≡ Some p → IsCharged charge (M.memory n) (Reach (M.memory n) (M.roots n))
  pub room : (k : ℕ) → HasRoom E M k (used k)
  pub full : (k : ℕ) → M.end k ≡ Arena → HasRoom E M k (used k + next k)
  pub over : (k : ℕ) → M.end k ≡ Arena → suc arena ≤ used k + next k
  pub tells_only : (k : ℕ) → TellsOnly E (err k)
  pub tells : (k : ℕ) (name : List ℕ) → M.end k ≡ Uncaught name → err k ≡ line_of name

-- what the source owes: with the factor its words pay for all layouts, where it reaches them and where it has made them
pub record Pays (charge : Point → ℕ) (factor : ℕ) (words made : ℕ → ℕ) (S : Run) : Type 0 where
  pub reach : (m : ℕ) → Affords factor charge (S.memory m) (Reach (S.memory m) (S.roots m)) (words m)
  pub all : (m : ℕ) → Affords factor charge (S.memory m) Any (made m)
