use Rattle.std.proofs.Common.{◌≤◌, length, drop}
use Rattle.sml_tree.specs.Sets.{union}
use Rattle.cps_free.specs.Same.{AreSame}
use Rattle.closure_layouts.proofs.tables.insert_all.Given as goal

abbrev pub invariant-loop-i : goal.invariant-loop-i
invariant-loop-i l = record {
  within : l.i ≤ length l.xs;
  put : AreSame l.set.keys (union (drop l.i l.xs) l.fn.set.keys);
}

abbrev pub decreases-loop-i : goal.decreases-loop-i
decreases-loop-i l = l.i
