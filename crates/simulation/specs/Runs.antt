-- What a run of a program shows, step by step.
use Rattle.std.specs.Prelude.{◌<◌, ◌≤◌, ◌≡◌, ◌≢◌, ℕ, zero, suc, ◌+◌, List, [], ◌∷◌, ◌++◌, Option, Some, None, cond}
use Rattle.smlc_base.specs.declared.point.Point.{Point}
use Rattle.smlc_base.specs.Points.{is_point, is_label}
use Rattle.simulation.specs.Blocks.{Block, IsPrefix, Grows}

-- how a run has ended
pub data End : Type 0 where
  Going : End
  Normal : End
  Uncaught : (name : List ℕ) → End
  Arena : End
  Stuck : End

-- A run of one program on one input. Each field but the first is a function of the number of steps done.
pub record Run : Type 0 where
  -- the points that stand in the program
  pub labels : List Point
  -- what has been written
  pub out : ℕ → List ℕ
  pub end : ℕ → End
  -- the point that the state passes
  pub pass : ℕ → Option Point
  pub memory : ℕ → List Block
  pub roots : ℕ → List ℕ

abbrev pub times : Point → List Point → ℕ
times p [] = 0
times p (q ∷ qs) = cond (is_point q p) (suc (times p qs)) (times p qs)

-- a pass of one of these points, and no other
abbrev pub visible : List Point → Option Point → Option Point
visible labels None = None
visible labels (Some p) = cond (is_label labels p) (Some p) None

abbrev pub listed : Option Point → List Point
listed None = []
listed (Some p) = p ∷ []

-- the passes of these points before step n, in order
abbrev pub seen : List Point → Run → ℕ → List Point
seen labels r zero = []
seen labels r (suc n) = seen labels r n ++ listed (visible labels (r.pass n))

-- 1 where the point is passed
abbrev pub one_pass : Point → Option Point → ℕ
one_pass p None = 0
one_pass p (Some q) = cond (is_point q p) 1 0

-- how often the point was passed before step n
abbrev pub passes_before : Point → Run → ℕ → ℕ
passes_before p r zero = 0
passes_before p r (suc n) = passes_before p r n + one_pass p (r.pass n)

-- what is so of the run of any machine: an end stays
pub record IsLawful (r : Run) : Type 0 where
  pub end_stays : (n : ℕ) → r.end n ≢ Going → r.end (suc n) ≡ r.end n
  pub end_tells : (n : ℕ) → r.end n ≢ Going → r.out (suc n) ≡ r.out n
  pub end_makes : (n : ℕ) → r.end n ≢ Going → r.memory (suc n) ≡ r.memory n
  pub end_passes : (n : ℕ) → r.end n ≢ Going → r.pass n ≡ None

-- from step i up to step j no output and no block is taken back
pub record IsGrowing (r : Run) (i j : ℕ) : Type 0 where
  pub tells : (k : ℕ) → i ≤ k → k < j → IsPrefix (r.out k) (r.out (suc k))
  pub makes : (k : ℕ) → i ≤ k → k < j → Grows (r.memory k) (r.memory (suc k))
