use Rattle.std.proofs.Common.{false}
use Rattle.convert_decide.specs.Decide.{item_in}
use Rattle.convert_steps.proofs.Entered.{rule_entered}
use Rattle.convert_steps.proofs.scoped.rule.Goals as goal

pub returns : goal.returns
returns c =
    rule_entered (item_in false c.args.source.own.now) c.args.source.terms.now c.args.world.now _ c.args.binds.now _ c.args.term c.args.at c.args.scope c.args.next c.in_ok-next.next c.present.result c.args.subject c.args.continuation c.cases_at-cases.result.now c.index-cases-index.result c.items.result.now c.cases_at-cases.ensures c.if-index-cases.false c.index-cases-index.is c.items.ensures c.present.ensures.number
    (λ g. c.in_ok-next.ensures (item_in false c.args.source.own.now) c.args.source.terms.now c.args.continuation g)
