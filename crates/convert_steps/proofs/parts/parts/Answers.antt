use Rattle.std.proofs.Common.{false}
use Rattle.std.proofs.lemmas.Result.{IfOk-weaker}
use Rattle.convert_decide.specs.Decide.{item_in}
use Rattle.convert_steps.proofs.Part.{parts_ended, parts_more}
use Rattle.convert_steps.proofs.parts.parts.Goals as goal

pub returns-then-done-all : goal.returns-then-done-all
returns-then-done-all c =
    IfOk-weaker c.make.result _ _
    (λ t h. parts_ended (item_in false c.args.source.own.now) c.args.source.terms.now c.args.world.now c.args.binds.now _ c.args.tuple c.args.scope c.args.next c.len-done.result c.parts_at-all.result.now c.args.before c.items.result.now c.in_ok-atoms.atoms c.args.continuation t c.parts_at-all.ensures c.len-done.ensures c.if-done-all.true c.items.ensures c.in_ok-atoms.ensures (h _ _ _))
    c.make.ensures

pub returns : goal.returns
returns c =
    IfOk-weaker c.part.result _ _
    (λ t h. parts_more (item_in false c.args.source.own.now) c.args.source.terms.now c.args.world.now _ c.args.binds.now _ c.args.tuple c.args.scope c.args.next c.len-done.result c.parts_at-all.result.now c.args.before c.args.continuation (record { slot = 0; node = 0 }) t c.parts_at-all.ensures c.len-done.ensures c.if-done-all.false h)
    c.part.ensures
