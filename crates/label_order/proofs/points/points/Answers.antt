use Rattle.std.proofs.Common.{ap, ◌∙◌, arith}
use Rattle.std.proofs.lemmas.List.{take_all}
use Rattle.label_order.specs.Order.{numbered, points_in}
use Rattle.label_order.proofs.Slots.{point_more}
use Rattle.label_order.proofs.points.points.Goals as goal

pub loop-i-preserved : goal.loop-i-preserved
loop-i-preserved c = point_more c.args.all.now c.deref-i-items.result.now c.loop-i.i-index _ c.loop-i.points.items c.push_point.new.points.items c.loop-i-test.true c.loop-i.invariant c.in_ok-push_point.ensures

pub returns : goal.returns
returns c =
    c.loop-i.invariant ∙ ap (λ is. points_in (numbered c.args.all.now is)) (take_all c.loop-i.i-index c.deref-i-items.result.now (omega (arith, c.loop-i-test.false)) ∙ c.deref-i-items.ensures.value) ∙ ap points_in c.in_ok-order.ensures
