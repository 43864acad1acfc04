use Rattle.std.proofs.Common.{◌≡◌, ℕ, ◌<◌, ◌≤◌, ◌+◌, ◌-◌, length}
use Rattle.std.specs.Prelude.{slice_get}
use Rattle.sml_unify.specs.Solved.{bound_at}
use Rattle.sml_unify.proofs.bind.bind.Given as goal

abbrev pub invariant-loop-bound : goal.invariant-loop-bound
invariant-loop-bound l = record {
  longer : length l.fn.bound ≤ length l.bound;
  same : (y : ℕ) → bound_at l.bound y ≡ bound_at l.fn.bound y;
  prefix : (i : ℕ) → i < length l.fn.bound → slice_get l.bound i ≡ slice_get l.fn.bound i;
  short : (count : ℕ) → length l.fn.bound ≤ count → l.num < count → length l.bound ≤ count;
}

abbrev pub decreases-loop-bound : goal.decreases-loop-bound
decreases-loop-bound l = l.num + 1 - length l.bound
