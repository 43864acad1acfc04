use Rattle.sml_unify.proofs.VariableWalk.{IsCollected}
use Rattle.sml_unify.proofs.Visits.{to_do}
use Rattle.sml_unify.proofs.variables.found_in.Given as goal

abbrev pub invariant-loop-next : goal.invariant-loop-next
invariant-loop-next l = IsCollected l.forms l.bound l.fn.ty.0 l.work.items l.seen.keys l.numbers.keys l.found.items

abbrev pub decreases-loop-next : goal.decreases-loop-next
decreases-loop-next l = to_do l.forms l.seen.keys l.work.items
