use Rattle.std.proofs.Common.{◌≡◌, ◌<◌, ℕ, length, take}
use Rattle.std.specs.Prelude.{◌&&◌, ◌||◌, nat_eq}
use Rattle.sml_tree.specs.Sets.{has, row_at}
use Rattle.variable_users.specs.Rows.{rows_of}
use Rattle.variable_users.proofs.users.add_label.Given as goal

abbrev pub invariant-loop-x : goal.invariant-loop-x
invariant-loop-x l = record {
  len : length l.sets.items ≡ length l.fn.sets.items;
  members : (y z : ℕ) → y < length l.fn.sets.items → has (row_at (rows_of l.sets.items) y) z ≡ ((has (take l.x-index l.free) y && nat_eq z l.label) || has (row_at (rows_of l.fn.sets.items) y) z);
}
