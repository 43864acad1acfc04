use Rattle.std.proofs.Common.{◌∙◌, subst, sym, arith, ap}
use Rattle.std.specs.Prelude.{nat_eq, ◌&&◌, ◌||◌}
use Rattle.sml_tree.specs.Sets.{has, row_at}
use Rattle.lifetime_users.specs.Users.{label_in}
use Rattle.variable_users.specs.Ranks.{AreRanks}
use Rattle.std.proofs.lemmas.List.{take_all}
use Rattle.variable_users.specs.Rows.{rows_of, ArePut}
use Rattle.variable_users.proofs.Putting.{none_put, layout_put}
use Rattle.variable_users.proofs.users.user_sets.Goals as goal

pub loop-layout-init : goal.loop-layout-init
loop-layout-init c = none_put c.args.layouts.now c.args.n c.in_ok-sets.sets.items c.in_ok-sets.ensures

pub loop-layout-preserved : goal.loop-layout-preserved
loop-layout-preserved c =
    let ready : AreRanks c.args.layouts.now c.deref.result.now = subst (AreRanks c.args.layouts.now) (sym c.deref.ensures.value) c.in_ok-ranks.ensures in
    layout_put c.args.layouts.now c.loop-layout.layout-index c.args.n c.in_ok-label.label _ c.layout-item.result c.loop-layout.sets.items c.add_label.new.sets.items c.loop-layout-test.true c.layout-item.is
    (c.in_ok-label.ensures c.args.layouts.now ready ∙ ap (label_in c.args.layouts.now) c.point.ensures)
    c.in_ok-add_label.ensures.len
    (λ y z lt. c.in_ok-add_label.ensures.members y z lt ∙ ap (λ free. (has free y && nat_eq z c.in_ok-label.label) || has (row_at (rows_of c.loop-layout.sets.items) y) z) c.free.ensures)
    c.loop-layout.invariant

pub returns : goal.returns
returns c =
    subst (λ ls. ArePut c.args.layouts.now ls c.args.n (rows_of c.loop-layout.sets.items)) (take_all c.loop-layout.layout-index c.args.layouts.now (omega (arith, c.loop-layout-test.false))) c.loop-layout.invariant
