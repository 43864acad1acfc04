use Rattle.std.proofs.Common.{◌≤◌, length}
use Rattle.closed_live.specs.Rows.{AreLive}
use Rattle.closed_live.proofs.lives.live_variables.Given as goal

abbrev pub invariant-loop-i : goal.invariant-loop-i
invariant-loop-i l = record {
  within : l.i ≤ length l.bodies;
  done : AreLive l.bodies l.i l.lives.items;
}

abbrev pub decreases-loop-i : goal.decreases-loop-i
decreases-loop-i l = l.i
