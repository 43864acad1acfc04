use Rattle.std.proofs.Common.{◌≡◌, take}
use Rattle.label_order.specs.Order.{numbered, in_slots}
use Rattle.label_order.proofs.order.in_order.Given as goal

abbrev pub invariant-loop-slot : goal.invariant-loop-slot
invariant-loop-slot l = numbered l.all l.order.items ≡ in_slots l.all (take l.slot-index l.slot-items)
