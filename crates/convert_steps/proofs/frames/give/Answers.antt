use Rattle.std.proofs.Common.{false}
use Rattle.std.proofs.lemmas.Result.{IfOk-weaker}
use Rattle.convert_decide.specs.Decide.{item_in}
use Rattle.convert_steps.proofs.Resumed.{at_continuation}
use Rattle.convert_steps.proofs.frames.give.Goals as goal

pub returns-in-Known : goal.returns-in-Known
returns-in-Known c =
    IfOk-weaker c.call_known.result _ _
    (λ s h. at_continuation (item_in false c.args.source.own.now) c.args.source.terms.now c.args.world.now _ c.args.binds.now _ _ c.args.scope c.args.continuation _ s c.in-Known.is (h (item_in false c.args.source.own.now) c.args.source.terms.now c.args.world.now c.args.binds.now))
    c.call_known.ensures

pub returns-in-Text : goal.returns-in-Text
returns-in-Text c =
    IfOk-weaker c.resume_at.result _ _
    (λ s h. at_continuation (item_in false c.args.source.own.now) c.args.source.terms.now c.args.world.now _ c.args.binds.now _ _ c.args.scope c.args.continuation _ s c.in-Text.is h)
    c.resume_at.ensures
