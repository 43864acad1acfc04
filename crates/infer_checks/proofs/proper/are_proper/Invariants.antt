use Rattle.std.proofs.Common.{◌<◌, ℕ}
use Rattle.infer_state.specs.Fits.{settled_at}
use Rattle.infer_checks.specs.Checked.{ending}
use Rattle.infer_checks.specs.Ending.{IsProperAt}
use Rattle.infer_checks.proofs.proper.are_proper.Given as goal

abbrev pub invariant-settled : goal.invariant-settled
invariant-settled l = (x : ℕ) → x < l.name → IsProperAt (ending l.unknowns l.renames) (settled_at l.unknowns.types l.settled x)
