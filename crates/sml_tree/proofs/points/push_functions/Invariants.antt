use Rattle.std.proofs.Common.{◌≡◌, ◌≤◌, ◌++◌, length, drop, reverse}
use Rattle.sml_tree.specs.Points.{function_parts}
use Rattle.sml_tree.proofs.points.push_functions.Given as goal

abbrev pub invariant-loop-i : goal.invariant-loop-i
invariant-loop-i l = record {
  within : l.i ≤ length l.bindings;
  done : l.work.items ≡ l.fn.work.items ++ reverse (function_parts (drop l.i l.bindings));
}

abbrev pub decreases-loop-i : goal.decreases-loop-i
decreases-loop-i l = l.i
