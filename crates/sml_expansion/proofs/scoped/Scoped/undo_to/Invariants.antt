use Rattle.std.proofs.Common.{◌≡◌, length}
use Rattle.sml_expansion.specs.Scoped.{oldest}
use Rattle.sml_expansion.proofs.scoped.Scoped.undo_to.Given as goal

abbrev pub invariant-loop-self : goal.invariant-loop-self
invariant-loop-self g l = oldest l.bindings l.self ≡ oldest l.bindings l.fn.self

abbrev pub decreases-loop-self : goal.decreases-loop-self
decreases-loop-self g l = length l.self
