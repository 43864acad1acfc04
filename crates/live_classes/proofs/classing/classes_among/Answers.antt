use Rattle.std.proofs.Common.{ap, ◌∙◌, arith}
use Rattle.std.proofs.lemmas.List.{take_all}
use Rattle.sml_tree.specs.Sets.{row_at}
use Rattle.live_classes.specs.Keys.{key_at, with_key, classes_by}
use Rattle.live_classes.proofs.Grouping.{classes_more}
use Rattle.live_classes.proofs.classing.classes_among.Goals as goal

pub loop-x-preserved : goal.loop-x-preserved
loop-x-preserved c =
    let K = key_at c.args.homes.now c.args.users.now in
    classes_more K (row_at c.args.users.now) c.args.variables.now c.loop-x.x-index _ c.group.result.now c.row.result.now c.loop-x.found.items c.add_class.new.found.items c.loop-x-test.true
    (c.group.ensures ∙ c.in_ok-groups.ensures c.in_ok-key.key ∙ ap (with_key K c.args.variables.now) c.in_ok-key.ensures)
    c.row.ensures c.loop-x.invariant c.in_ok-add_class.ensures

pub returns : goal.returns
returns c =
    c.loop-x.invariant ∙ ap (classes_by (key_at c.args.homes.now c.args.users.now) (row_at c.args.users.now) c.args.variables.now) (take_all c.loop-x.x-index c.args.variables.now (omega (arith, c.loop-x-test.false)))
