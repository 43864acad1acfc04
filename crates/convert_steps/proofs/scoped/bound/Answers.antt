use Rattle.std.proofs.Common.{false, ap, sym, ◌∙◌}
use Rattle.lambda_ir.specs.declared.term.Bind.{Bind as Bound}
use Rattle.convert_decide.specs.Decide.{item_in}
use Rattle.convert_steps.proofs.Entered.{bound_entered}
use Rattle.convert_steps.proofs.scoped.bound.Goals as goal

pub returns : goal.returns
returns c =
    bound_entered (item_in false c.args.source.own.now) c.args.source.terms.now c.args.world.now _ c.args.binds.now _ c.args.declaration c.args.at c.args.body c.args.scope c.args.next c.in_ok-next.next c.in_ok-later.later c.present.result c.args.subject c.args.continuation c.binds_at-all.result.now c.index-all-index.result c.items.result.now c.binds_at-all.ensures c.if-index-all.false c.index-all-index.is (c.items.ensures ∙ ap (λ (b : Bound). b.names) (sym c.index-all-index.is)) c.in_ok-later.ensures c.present.ensures.number
    (λ g. c.in_ok-next.ensures (item_in false c.args.source.own.now) c.args.source.terms.now c.args.continuation g)
