use Rattle.std.proofs.Common.{◌≤◌, length}
use Rattle.sml_tree.specs.Variables.{AreVariables}
use Rattle.sml_tree.proofs.free.Variables.of.Given as goal

abbrev pub invariant-loop-i : goal.invariant-loop-i
invariant-loop-i l = record {
  after : l.from ≤ l.i;
  within : l.i ≤ length l.nodes;
  done : AreVariables l.nodes l.i l.bound.items l.free.items;
}

abbrev pub decreases-loop-i : goal.decreases-loop-i
decreases-loop-i l = l.i
