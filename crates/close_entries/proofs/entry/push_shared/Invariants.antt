use Rattle.std.proofs.Common.{◌≡◌, ◌++◌, drop}
use Rattle.close_entries.specs.Entries.{shared_from}
use Rattle.close_entries.proofs.entry.push_shared.Given as goal

abbrev pub invariant-loop-variable : goal.invariant-loop-variable
invariant-loop-variable l = l.bounds.items ++ shared_from l.closure l.slot l.field (drop l.variable-index l.variables) ≡ l.fn.bounds.items ++ shared_from l.closure l.slot 0 l.variables
