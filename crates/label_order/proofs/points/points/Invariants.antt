use Rattle.std.proofs.Common.{◌≡◌, take}
use Rattle.label_order.specs.Order.{numbered, points_in}
use Rattle.label_order.proofs.points.points.Given as goal

abbrev pub invariant-loop-i : goal.invariant-loop-i
invariant-loop-i l = l.points.items ≡ points_in (numbered l.all (take l.i-index l.i-items))
