use Rattle.std.proofs.Common.{◌≡◌, take}
use Rattle.std.specs.List.{AllByRecursion}
use Rattle.sml_tree.specs.IsBare.{IsAscending}
use Rattle.variable_users.specs.Rows.{rows_of}
use Rattle.variable_users.proofs.users.users_of_variables.Given as goal

abbrev pub invariant-loop-set : goal.invariant-loop-set
invariant-loop-set l = record {
  rows : l.rows.items ≡ take l.set-index (rows_of l.set-items);
  ascend : AllByRecursion (IsAscending 0) l.rows.items;
}
