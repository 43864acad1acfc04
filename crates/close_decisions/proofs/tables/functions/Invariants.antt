use Rattle.std.proofs.Common.{◌≡◌, ◌++◌, drop}
use Rattle.close_decisions.specs.Tables.{decisions_with}
use Rattle.close_decisions.proofs.tables.functions.Given as goal

abbrev pub invariant-loop-i : goal.invariant-loop-i
invariant-loop-i l = l.functions ++ decisions_with l.all (drop l.i l.all) (drop l.i l.layouts) ≡ decisions_with l.all l.all l.layouts
