use Rattle.std.proofs.Common.{length, ap, sym, ◌∙◌, Some}
use Rattle.std.specs.Borrow.{Bor}
use Rattle.cps_ir.specs.declared.body.Function.{Function}
use Rattle.close_labels.proofs.Filling.{now, found_now, one_more, none_filled}
use Rattle.close_labels.proofs.slots.slots.Goals as goal

pub loop-i-init : goal.loop-i-init
loop-i-init c = none_filled c.args.decisions.now (now c.args.functions.now) (now c.args.functions.now) (length c.args.functions.now) c.in_ok-slots.slots.items c.in_ok-slots.ensures

pub loop-i-preserved : goal.loop-i-preserved
loop-i-preserved c =
    one_more c.args.decisions.now (now c.args.functions.now) c.loop-i.i c.in_ok-number.field-0 c.index-functions-i.result.now c.loop-i.slots.items c.fill_one.new.slots.items _
    c.in_ok-number.ensures (found_now c.args.functions.now c.loop-i.i _ c.loop-i-test.true ∙ ap (λ (f : Bor Function). Some f.now) (sym c.index-functions-i.is)) c.fill_one.ensures c.loop-i.invariant
