use Rattle.std.proofs.Common.{◌≤◌, length, drop}
use Rattle.convert_decide.specs.Decide.{AreRets}
use Rattle.convert_decide.proofs.decide.rets.Given as goal

abbrev pub invariant-loop-at : goal.invariant-loop-at
invariant-loop-at l = record { within : l.at ≤ length l.sites; done : AreRets (drop l.at l.sites) l.rets }

abbrev pub decreases-loop-at : goal.decreases-loop-at
decreases-loop-at l = l.at
