use Rattle.std.proofs.Common.{◌≡◌, ◌≤◌, length}
use Rattle.reg_spill.proofs.Spilling.{AreSpilled}
use Rattle.reg_spill.proofs.spills.spilled.Given as goal

abbrev pub invariant-loop-i : goal.invariant-loop-i
invariant-loop-i l = record {
  within : l.i ≤ length l.bodies;
  len : length l.table.items ≡ length l.bodies;
  done : AreSpilled l.bodies l.i l.table.items;
}

abbrev pub decreases-loop-i : goal.decreases-loop-i
decreases-loop-i l = l.i
