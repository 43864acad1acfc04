use Rattle.std.proofs.Common.{length, take}
use Rattle.label_order.specs.Order.{AreSlots}
use Rattle.label_order.proofs.order.slots.Given as goal

abbrev pub invariant-loop-i : goal.invariant-loop-i
invariant-loop-i l = AreSlots l.all (take l.i l.all) (length l.all) l.slots.items
