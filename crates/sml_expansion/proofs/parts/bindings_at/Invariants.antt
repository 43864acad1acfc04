use Rattle.std.proofs.Common.{◌≡◌, ◌++◌, length}
use Rattle.sml_expansion.specs.Forests.{bindings_at}
use Rattle.sml_expansion.proofs.parts.bindings_at.Given as goal

abbrev pub invariant-loop-rest : goal.invariant-loop-rest
invariant-loop-rest l = l.bindings ++ bindings_at l.rest ≡ bindings_at l.parts

abbrev pub decreases-loop-rest : goal.decreases-loop-rest
decreases-loop-rest l = length l.rest
