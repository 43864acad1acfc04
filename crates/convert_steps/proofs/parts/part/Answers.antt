use Rattle.std.proofs.Common.{false, sym, ◌∙◌}
use Rattle.std.proofs.lemmas.Result.{IfOk-weaker}
use Rattle.convert_decide.specs.Decide.{item_in}
use Rattle.convert_steps.proofs.Part.{part_owned, part_text}
use Rattle.convert_steps.proofs.parts.part.Goals as goal

pub returns-then-is_own : goal.returns-then-is_own
returns-then-is_own c =
    IfOk-weaker c.own_part.result _ _
    (λ t h. part_owned (item_in false c.args.source.own.now) c.args.source.terms.now c.args.world.now c.text_of.new.world c.own_part.new.world c.args.binds.now c.own_part.new.binds c.args.term c.args.next c.args.frame c.in_ok-continuation.continuation t (sym c.is_own.ensures ∙ c.if-is_own.true) c.in_ok-continuation.ensures.frames c.in_ok-continuation.ensures.number h)
    c.own_part.ensures

pub returns-else-is_own : goal.returns-else-is_own
returns-else-is_own c =
    part_text (item_in false c.args.source.own.now) c.args.source.terms.now c.args.world.now c.text_of.new.world c.args.binds.now c.args.term c.args.next c.args.frame c.in_ok-continuation.continuation (sym c.is_own.ensures ∙ c.if-is_own.false) c.in_ok-continuation.ensures.frames c.in_ok-continuation.ensures.number
