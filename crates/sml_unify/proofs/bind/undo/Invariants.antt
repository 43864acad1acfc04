use Rattle.std.proofs.Common.{◌≡◌, ℕ, ◌<◌, length, take, true, false, Some, None}
use Rattle.std.specs.Prelude.{slice_get}
use Rattle.sml_unify.specs.Steps.{logged}
use Rattle.sml_unify.proofs.bind.undo.Given as goal

abbrev pub invariant-loop-num : goal.invariant-loop-num
invariant-loop-num l = record {
  same : length l.bound ≡ length l.fn.bound;
  reset : (i : ℕ) → i < length l.fn.bound → logged (take l.num-index l.log) i ≡ true → slice_get l.bound i ≡ Some None;
  rest : (i : ℕ) → i < length l.fn.bound → logged (take l.num-index l.log) i ≡ false → slice_get l.bound i ≡ slice_get l.fn.bound i;
}
