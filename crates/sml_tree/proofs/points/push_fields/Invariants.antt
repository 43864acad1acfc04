use Rattle.std.proofs.Common.{◌≡◌, ◌≤◌, ◌++◌, length, drop, reverse}
use Rattle.sml_tree.specs.Sets.{row_at}
use Rattle.sml_tree.specs.Free.{free_fields}
use Rattle.sml_tree.specs.Points.{field_parts}
use Rattle.sml_tree.proofs.points.push_fields.Given as goal

abbrev pub invariant-loop-i : goal.invariant-loop-i
invariant-loop-i l = record {
  within : l.i ≤ length l.fields;
  later : l.later.items ≡ free_fields (row_at l.free) (drop l.i l.fields);
  done : l.work.items ≡ l.fn.work.items ++ reverse (field_parts (row_at l.free) l.i (drop l.i l.fields) l.outer);
}

abbrev pub decreases-loop-i : goal.decreases-loop-i
decreases-loop-i l = l.i
