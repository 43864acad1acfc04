use Rattle.std.proofs.Common.{◌+◌, length}
use Rattle.sml_unify.specs.Steps.{logged}
use Rattle.sml_unify.proofs.Unvisited.{unvisited}
use Rattle.sml_unify.proofs.OrderWalk.{IsOrdering}
use Rattle.sml_unify.proofs.order.order.Given as goal

abbrev pub invariant-loop-step : goal.invariant-loop-step
invariant-loop-step l = IsOrdering l.forms l.bound l.fn.ty.0 l.work.items l.seen.keys l.order.items

abbrev pub decreases-loop-step : goal.decreases-loop-step
decreases-loop-step l = unvisited (logged l.seen.keys) l.forms + length l.work.items
