use Rattle.std.specs.Prelude.{take}
use Rattle.variable_users.specs.Rows.{rows_of, ArePut}
use Rattle.variable_users.proofs.users.user_sets.Given as goal

abbrev pub invariant-loop-layout : goal.invariant-loop-layout
invariant-loop-layout l = ArePut l.layouts (take l.layout-index l.layouts) l.n (rows_of l.sets.items)
