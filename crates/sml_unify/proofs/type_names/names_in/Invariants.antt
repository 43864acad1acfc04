use Rattle.sml_unify.proofs.NameWalk.{IsNaming}
use Rattle.sml_unify.proofs.Visits.{to_do}
use Rattle.sml_unify.proofs.type_names.names_in.Given as goal

abbrev pub invariant-loop-next : goal.invariant-loop-next
invariant-loop-next l = IsNaming l.forms l.bound l.fn.ty.0 l.work.items l.seen.keys l.names.keys

abbrev pub decreases-loop-next : goal.decreases-loop-next
decreases-loop-next l = to_do l.forms l.seen.keys l.work.items
