use Rattle.std.proofs.Common.{◌≡◌, ◌≤◌, ◌++◌, length, drop, reverse}
use Rattle.sml_tree.specs.Points.{rule_parts}
use Rattle.sml_tree.proofs.points.push_rules.Given as goal

abbrev pub invariant-loop-i : goal.invariant-loop-i
invariant-loop-i l = record {
  within : l.i ≤ length l.rules;
  done : l.work.items ≡ l.fn.work.items ++ reverse (rule_parts (drop l.i l.rules) l.outer);
}

abbrev pub decreases-loop-i : goal.decreases-loop-i
decreases-loop-i l = l.i
