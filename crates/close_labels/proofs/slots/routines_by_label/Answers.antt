use Rattle.close_labels.proofs.Filling.{now, slot_more}
use Rattle.close_labels.proofs.slots.routines_by_label.Goals as goal

pub loop-slot-preserved : goal.loop-slot-preserved
loop-slot-preserved c =
    slot_more (now c.args.functions.now) c.deref-slot-items.result.now c.loop-slot.slot-index _ c.loop-slot.routines c.push_slot.new.routines c.loop-slot-test.true c.loop-slot.invariant c.in_ok-push_slot.ensures
