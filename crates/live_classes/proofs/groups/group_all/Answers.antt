use Rattle.std.proofs.Common.{ap, ◌∙◌, arith}
use Rattle.std.proofs.lemmas.List.{take_all}
use Rattle.live_classes.specs.Keys.{key_at, with_key}
use Rattle.live_classes.proofs.Grouping.{none_grouped, grouped_more}
use Rattle.live_classes.proofs.groups.group_all.Goals as goal

pub loop-x-init : goal.loop-x-init
loop-x-init c q = none_grouped c.new-groups.result q c.new-groups.ensures.empty

pub loop-x-preserved : goal.loop-x-preserved
loop-x-preserved c =
    grouped_more (key_at c.args.homes.now c.args.users.now) c.args.variables.now c.loop-x.x-index _ c.loop-x.groups c.add.new.groups c.in_ok-key.key c.loop-x-test.true c.in_ok-key.ensures c.loop-x.invariant c.in_ok-add.ensures

pub returns : goal.returns
returns c q =
    c.loop-x.invariant q ∙ ap (λ ys. with_key (key_at c.args.homes.now c.args.users.now) ys q.items) (take_all c.loop-x.x-index c.args.variables.now (omega (arith, c.loop-x-test.false)))
