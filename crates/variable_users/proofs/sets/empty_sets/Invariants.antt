use Rattle.std.proofs.Common.{◌≡◌, [], replicate}
use Rattle.variable_users.specs.Rows.{rows_of}
use Rattle.variable_users.proofs.sets.empty_sets.Given as goal

abbrev pub invariant-loop : goal.invariant-loop
invariant-loop l = rows_of l.sets.items ≡ replicate l.counter []
