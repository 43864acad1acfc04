-- What the end says of one run: S is the source's run, and M the machine's.
use Rattle.std.specs.Prelude.{◌≡◌, ◌≢◌, ℕ, suc, ◌+◌, ◌*◌, ◌≤◌, List, length, true, false, ◌⊎◌}
use Rattle.smlc_base.specs.declared.point.Point.{Point}
use Rattle.sml_tree.specs.declared.bare.Bare.{Bare}
use Rattle.simulation.specs.Blocks.{IsPrefix}
use Rattle.simulation.specs.Runs.{Run, Going, Uncaught, Arena, Stuck, seen}
use Rattle.smlc_base.specs.Points.{is_label}
use Rattle.simulation.specs.Keeps.{IsNthPass, IsKept}
use Rattle.simulation.specs.Words.{HasWords}
use Rattle.sml_def.specs.Run.{run}
use Rattle.sml_def.specs.Words.{words}
use Rattle.sml_def.specs.Made.{made}
use Rattle.sml_def.specs.Sites.{sites}
use Rattle.sml_def.specs.Factor.{CoversLabels}
use Rattle.end_to_end.specs.Owes.{line_of, TellsOnly, IsPlaced, IsEmitted}

-- meaning, both ways
pub record Means (err : ℕ → List ℕ) (S M : Run) : Type 0 where
  pub told : (n : ℕ) → ((m : ℕ) × (M.out m ≡ S.out n)) ⊎ ((m : ℕ) × (M.end m ≡ Arena) × IsPrefix (M.out m) (S.out n))
  pub ends : (n : ℕ) → S.end n ≢ Going → ((m : ℕ) × (M.end m ≡ S.end n) × (M.out m ≡ S.out n)) ⊎ ((m : ℕ) × (M.end m ≡ Arena) × IsPrefix (M.out m) (S.out n))
  pub told_only : (m : ℕ) → (n : ℕ) × IsPrefix (M.out m) (S.out n)
  pub ends_only : (m : ℕ) → M.end m ≢ Going → M.end m ≢ Arena → (n : ℕ) × (S.end n ≡ M.end m) × (S.out n ≡ M.out m)
  pub never_stuck : (m : ℕ) → M.end m ≢ Stuck
  pub tells_only : (m : ℕ) → TellsOnly S (err m)
  pub tells : (m : ℕ) (name : List ℕ) → M.end m ≡ Uncaught name → err m ≡ line_of name

-- space at entries, and that points that are passed are entered
pub record HasSpace (factor : ℕ) (words : ℕ → ℕ) (S M : Run) : Type 0 where
  pub space : (p : Point) (i n w : ℕ) → is_label M.labels p ≡ true → IsNthPass M p i n → HasWords (M.memory n) (M.roots n) w → (m : ℕ) × IsNthPass S p i m × (w ≤ factor * words m)
  pub entered : (p : Point) (i m : ℕ) → is_label M.labels p ≡ true → IsNthPass S p i m → ((n : ℕ) × IsNthPass M p i n) ⊎ ((n : ℕ) × (M.end n ≡ Arena))

-- the arena
pub record HasArena (factor spill arena : ℕ) (made used next : ℕ → ℕ) (S M : Run) : Type 0 where
  pub over : (k : ℕ) → M.end k ≡ Arena → suc arena ≤ used k + next k
  pub bound : (k : ℕ) → (n : ℕ) × IsPrefix (seen M.labels S n) (seen M.labels M k) × (used k ≤ factor * made n + spill * suc (length (seen M.labels M k)))
  pub full : (k : ℕ) → M.end k ≡ Arena → (n : ℕ) × IsPrefix (seen M.labels S n) (seen M.labels M k) × (used k + next k ≤ factor * made n + spill * suc (length (seen M.labels M k)))

pub record IsGoodRun (factor spill arena : ℕ) (words made used next : ℕ → ℕ) (err : ℕ → List ℕ) (S M : Run) : Type 0 where
  pub means : Means err S M
  pub space : HasSpace factor words S M
  pub full : HasArena factor spill arena made used next S M

-- what comes to the machine: the placed program's run keeps the source's, the machine's run keeps both but for a full arena, and the last passes do what they owe
pub record Comes (charge : Point → ℕ) (spill arena : ℕ) (used next : ℕ → ℕ) (err : ℕ → List ℕ) (S E M : Run) : Type 0 where
  pub first : IsKept false S E
  pub whole : IsKept true S M
  pub placed : IsPlaced charge spill E
  pub emitted : IsEmitted charge arena used next err E M

-- The factor covers what is charged to the labels of the machine's run. Then this run is good for the program's, by the program's own words.
abbrev pub IsGoodFor : Bare → List ℕ → (Point → ℕ) → ℕ → ℕ → ℕ → (ℕ → ℕ) → (ℕ → ℕ) → (ℕ → List ℕ) → Run → Type 0
IsGoodFor p input charge factor spill arena used next err M =
    CoversLabels M.labels (sites p) charge factor → IsGoodRun factor spill arena (λ m. words ((run p input).memory m) ((run p input).roots m)) (made p M.labels input) used next err (run p input) M

-- the source makes so much at most, passes so many points of the table, and the arena has room for both
pub record IsEnough (factor spill arena : ℕ) (made : ℕ → ℕ) (labels : List Point) (S : Run) : Type 0 where
  pub top : ℕ
  pub passes : ℕ
  pub most : (m : ℕ) → made m ≤ top
  pub few : (m : ℕ) → length (seen labels S m) ≤ passes
  pub room : factor * top + spill * suc passes ≤ arena

-- so the machine's run never ends for want of arena
abbrev pub HasEnough : Bare → List ℕ → (Point → ℕ) → ℕ → ℕ → ℕ → Run → Type 0
HasEnough p input charge factor spill arena M =
    CoversLabels M.labels (sites p) charge factor → IsEnough factor spill arena (made p M.labels input) M.labels (run p input) → (k : ℕ) → M.end k ≢ Arena
