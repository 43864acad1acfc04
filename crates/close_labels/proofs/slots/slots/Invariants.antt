use Rattle.std.proofs.Common.{◌≡◌, None, map, drop, length, replicate}
use Rattle.std.specs.Borrow.{Bor}
use Rattle.cps_ir.specs.declared.body.Function.{Function}
use Rattle.close_labels.specs.Slots.{fill, slot_in}
use Rattle.close_labels.proofs.slots.slots.Given as goal

abbrev pub invariant-loop-i : goal.invariant-loop-i
invariant-loop-i l =
    fill l.decisions (map (slot_in (map (λ (f : Bor Function). f.now) l.functions)) l.slots.items) (drop l.i (map (λ (f : Bor Function). f.now) l.functions))
    ≡ fill l.decisions (replicate (length l.functions) None) (map (λ (f : Bor Function). f.now) l.functions)
