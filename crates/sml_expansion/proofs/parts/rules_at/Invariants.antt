use Rattle.std.proofs.Common.{◌≡◌, ◌++◌, length}
use Rattle.sml_expansion.specs.Forests.{rules_at}
use Rattle.sml_expansion.proofs.parts.rules_at.Given as goal

abbrev pub invariant-loop-rest : goal.invariant-loop-rest
invariant-loop-rest l = l.rules ++ rules_at l.rest ≡ rules_at l.parts

abbrev pub decreases-loop-rest : goal.decreases-loop-rest
decreases-loop-rest l = length l.rest
