use Rattle.std.proofs.Common.{◌≤◌, length, drop}
use Rattle.close_decisions.specs.Tables.{AreNumbers}
use Rattle.close_decisions.proofs.tables.numbers.Given as goal

abbrev pub invariant-loop-i : goal.invariant-loop-i
invariant-loop-i l = record {
  within : l.i ≤ length l.all;
  are : AreNumbers l.variables l.i (drop l.i l.all) l.numbers.items;
}

abbrev pub decreases-loop-i : goal.decreases-loop-i
decreases-loop-i l = l.i
