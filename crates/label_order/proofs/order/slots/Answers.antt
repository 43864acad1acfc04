use Rattle.std.proofs.Common.{length, sym, subst, ap, ◌∙◌, arith}
use Rattle.std.proofs.lemmas.List.{take_all}
use Rattle.cps_ir.specs.Slim.{Layout}
use Rattle.lifetime_users.specs.Users.{label_in}
use Rattle.variable_users.specs.Ranks.{AreRanks}
use Rattle.label_order.specs.Order.{AreSlots}
use Rattle.label_order.proofs.Slots.{none_yet, slot_more}
use Rattle.label_order.proofs.order.slots.Goals as goal

pub loop-i-init : goal.loop-i-init
loop-i-init c = none_yet c.args.all.now (length c.args.all.now) c.in_ok-slots.slots.items c.in_ok-slots.ensures

pub loop-i-preserved : goal.loop-i-preserved
loop-i-preserved c =
    let ready : AreRanks c.args.all.now c.deref.result.now = subst (AreRanks c.args.all.now) (sym c.deref.ensures.value) c.in_ok-ranks.ensures in
    slot_more c.args.all.now c.loop-i.i c.in_ok-label.label c.in_ok-number.field-0 (length c.args.all.now) c.index-all-i.result c.loop-i.slots.items c.set_slot.new.slots.items c.requires c.loop-i-test.true
    (c.in_ok-label.ensures c.args.all.now ready ∙ ap (label_in c.args.all.now) (c.point.ensures ∙ ap (λ (l : Layout). l.point) c.index-all-i.is))
    c.in_ok-number.ensures c.set_slot.ensures c.loop-i.invariant

pub returns : goal.returns
returns c = subst (λ ls. AreSlots c.args.all.now ls (length c.args.all.now) c.loop-i.slots.items) (take_all c.loop-i.i c.args.all.now (omega (arith, c.loop-i-test.false))) c.loop-i.invariant
