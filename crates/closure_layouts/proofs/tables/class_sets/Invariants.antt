use Rattle.std.proofs.Common.{take}
use Rattle.variable_users.specs.Rows.{rows_of}
use Rattle.closure_layouts.specs.Tables.{AreNumbered}
use Rattle.closure_layouts.proofs.tables.class_sets.Given as goal

abbrev pub invariant-loop-i : goal.invariant-loop-i
invariant-loop-i l = AreNumbered (take l.i l.classes) l.n (rows_of l.sets.items)
