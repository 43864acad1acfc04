use Rattle.std.proofs.Common.{ap, ◌∙◌, arith}
use Rattle.std.proofs.lemmas.List.{take_all}
use Rattle.plan_factor.specs.Groups.{with_rank}
use Rattle.plan_factor.proofs.Keyed.{none_grouped, grouped_more}
use Rattle.plan_factor.proofs.groups.group_all.Goals as goal

pub loop-i-init : goal.loop-i-init
loop-i-init c q = none_grouped c.new-groups.result q c.new-groups.ensures.empty

pub loop-i-preserved : goal.loop-i-preserved
loop-i-preserved c = grouped_more c.args.all.now c.args.order.now c.loop-i.i-index _ c.loop-i.groups c.add_number.new.groups c.loop-i-test.true c.loop-i.invariant c.in_ok-add_number.ensures

pub returns : goal.returns
returns c q = c.loop-i.invariant q ∙ ap (λ is. with_rank c.args.all.now is q) (take_all c.loop-i.i-index c.args.order.now (omega (arith, c.loop-i-test.false)))
