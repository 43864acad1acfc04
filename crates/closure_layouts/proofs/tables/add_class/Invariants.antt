use Rattle.std.proofs.Common.{◌≡◌, ◌<◌, ℕ, length, take}
use Rattle.std.specs.Prelude.{◌&&◌, ◌||◌, nat_eq}
use Rattle.std.specs.List.{list_any}
use Rattle.smlc_base.specs.declared.point.Label.{Label}
use Rattle.sml_tree.specs.Sets.{has, row_at}
use Rattle.variable_users.specs.Rows.{rows_of}
use Rattle.closure_layouts.proofs.tables.add_class.Given as goal

abbrev pub invariant-loop-user : goal.invariant-loop-user
invariant-loop-user l = record {
  len : length l.sets.items ≡ length l.fn.sets.items;
  members : (y z : ℕ) → y < length l.fn.sets.items → has (row_at (rows_of l.sets.items) y) z ≡ ((list_any (λ (u : Label). nat_eq u.0 y) (take l.user-index l.users) && nat_eq z l.n) || has (row_at (rows_of l.fn.sets.items) y) z);
}
