use Rattle.std.proofs.Common.{ap, ◌∙◌, arith}
use Rattle.std.proofs.lemmas.List.{take_all}
use Rattle.label_order.specs.Order.{in_slots}
use Rattle.label_order.proofs.Slots.{slot_taken, in_order_are}
use Rattle.label_order.proofs.order.in_order.Goals as goal

pub loop-slot-preserved : goal.loop-slot-preserved
loop-slot-preserved c = slot_taken c.args.all.now c.deref-slot-items.result.now c.loop-slot.slot-index _ c.loop-slot.order.items c.push_slot.new.order.items c.loop-slot-test.true c.loop-slot.invariant c.in_ok-push_slot.ensures

pub returns : goal.returns
returns c =
    c.loop-slot.invariant ∙ ap (in_slots c.args.all.now) (take_all c.loop-slot.slot-index c.deref-slot-items.result.now (omega (arith, c.loop-slot-test.false)) ∙ c.deref-slot-items.ensures.value)
    ∙ in_order_are c.args.all.now c.in_ok-slots.slots.items c.in_ok-slots.ensures
