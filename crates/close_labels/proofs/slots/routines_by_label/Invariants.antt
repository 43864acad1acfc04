use Rattle.std.proofs.Common.{◌≡◌, map, take}
use Rattle.std.specs.Borrow.{Bor}
use Rattle.cps_ir.specs.declared.body.Function.{Function}
use Rattle.close_labels.specs.Slots.{routine_by, of_slots, slot_in}
use Rattle.close_labels.proofs.slots.routines_by_label.Given as goal

abbrev pub invariant-loop-slot : goal.invariant-loop-slot
invariant-loop-slot l = l.routines ≡ map routine_by (of_slots (map (slot_in (map (λ (f : Bor Function). f.now) l.functions)) (take l.slot-index l.slot-items)))
