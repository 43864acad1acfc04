use Rattle.std.proofs.Common.{◌≤◌, length}
use Rattle.convert_decide.specs.Table.{AreFactsFrom}
use Rattle.convert_decide.proofs.table.facts.Given as goal

abbrev pub invariant-loop-at : goal.invariant-loop-at
invariant-loop-at l = record { within : l.at ≤ length l.terms; done : AreFactsFrom l.terms l.at l.found }

abbrev pub decreases-loop-at : goal.decreases-loop-at
decreases-loop-at l = l.at
