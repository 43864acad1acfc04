use Rattle.std.proofs.Common.{◌≡◌, ◌≤◌, ◌++◌, length, drop, reverse}
use Rattle.sml_tree.specs.Sets.{row_at, union_over}
use Rattle.sml_tree.specs.Free.{bound_by}
use Rattle.sml_tree.specs.Points.{right_parts}
use Rattle.sml_tree.proofs.points.push_rights.Given as goal

abbrev pub invariant-loop-i : goal.invariant-loop-i
invariant-loop-i l = record {
  within : l.i ≤ length l.bindings;
  patterns : l.patterns.items ≡ union_over (λ b. row_at l.free b.pat) (drop l.i l.bindings);
  rights : l.rights.items ≡ union_over (λ b. row_at l.free b.right) (drop l.i l.bindings);
  names : l.names.items ≡ bound_by (row_at l.bound) (row_at l.free) (drop l.i l.bindings);
  done : l.work.items ≡ l.fn.work.items ++ reverse (right_parts (row_at l.bound) (row_at l.free) (drop l.i l.bindings) l.body l.outer);
}

abbrev pub decreases-loop-i : goal.decreases-loop-i
decreases-loop-i l = l.i
