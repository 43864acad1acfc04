use Rattle.std.proofs.Common.{false, refl}
use Rattle.std.proofs.lemmas.Result.{IfOk-weaker}
use Rattle.convert_decide.specs.Decide.{item_in}
use Rattle.convert_steps.proofs.Entered.{bindings_ended, bindings_more}
use Rattle.convert_steps.proofs.scoped.bindings.Goals as goal

pub returns-then-index-all : goal.returns-then-index-all
returns-then-index-all c =
    bindings_ended (item_in false c.args.source.own.now) c.args.source.terms.now c.args.world.now c.args.binds.now c.args.declaration c.args.at c.args.body c.args.scope c.args.next c.args.continuation c.binds_at-all.result.now c.binds_at-all.ensures c.if-index-all.true

pub returns : goal.returns
returns c =
    IfOk-weaker c.part.result _ _
    (λ t h. bindings_more (item_in false c.args.source.own.now) c.args.source.terms.now c.args.world.now c.part.new.world c.args.binds.now c.part.new.binds c.args.declaration c.args.at c.args.body c.args.scope c.args.next _ c.args.continuation c.binds_at-all.result.now c.index-all-index.result t c.binds_at-all.ensures c.if-index-all.false refl h)
    c.part.ensures
