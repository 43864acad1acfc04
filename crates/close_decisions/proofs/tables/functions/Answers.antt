use Rattle.std.proofs.Common.{sym, subst, ap, ◌∙◌}
use Rattle.variable_users.specs.Ranks.{AreRanks}
use Rattle.lifetime_users.specs.Users.{label_in}
use Rattle.close_decisions.specs.Tables.{decisions_with}
use Rattle.close_decisions.proofs.Numbered.{decided_more}
use Rattle.close_decisions.proofs.tables.functions.Goals as goal

pub loop-i-preserved : goal.loop-i-preserved
loop-i-preserved c =
    let ready : AreRanks c.args.all.now c.deref.result.now = subst (AreRanks c.args.all.now) (sym c.deref.ensures.value) c.in_ok-ranks.ensures in
    decided_more c.args.all.now c.args.all.now c.args.layouts.now c.loop-i.i _ c.index-all-i.result _ c.index-layouts-i.result c.loop-i.functions c.push.new.self (decisions_with c.args.all.now c.args.all.now c.args.layouts.now) c.in_ok-decision.field-0 c.in_ok-label.label
    c.loop-i-test.true c.requires c.index-all-i.is c.index-layouts-i.is
    (c.in_ok-label.ensures c.args.all.now ready ∙ ap (label_in c.args.all.now) c.point.ensures)
    c.in_ok-decision.ensures c.in_ok-push.ensures.ok c.loop-i.invariant
