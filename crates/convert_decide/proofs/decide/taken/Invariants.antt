use Rattle.std.proofs.Common.{◌≤◌, length}
use Rattle.convert_decide.specs.Decide.{AreTaken}
use Rattle.convert_decide.proofs.decide.taken.Given as goal

abbrev pub invariant-loop-at : goal.invariant-loop-at
invariant-loop-at l = record { within : l.at ≤ length l.terms; done : AreTaken l.terms l.at l.taken }

abbrev pub decreases-loop-at : goal.decreases-loop-at
decreases-loop-at l = l.at
