use Rattle.std.proofs.Common.{◌≤◌, length}
use Rattle.cps_free.specs.Rows.{AreFree}
use Rattle.cps_free.proofs.frees.free_variables.Given as goal

abbrev pub invariant-loop-i : goal.invariant-loop-i
invariant-loop-i l = record {
  within : l.i ≤ length l.bodies;
  done : AreFree l.bodies l.i l.frees.items;
}

abbrev pub decreases-loop-i : goal.decreases-loop-i
decreases-loop-i l = l.i
