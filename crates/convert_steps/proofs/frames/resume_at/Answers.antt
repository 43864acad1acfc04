use Rattle.std.proofs.Common.{false}
use Rattle.std.proofs.lemmas.Result.{IfOk-weaker}
use Rattle.convert_decide.specs.Decide.{item_in}
use Rattle.std.proofs.Common.{ap, sym, ◌∙◌, slice_get}
use Rattle.convert_steps.proofs.Resumed.{text_resumed}
use Rattle.convert_steps.proofs.frames.resume_at.Goals as goal

pub returns : goal.returns
returns c =
    IfOk-weaker c.resume.result _ _
    (λ s h. text_resumed (item_in false c.args.source.own.now) c.args.source.terms.now c.args.world.now c.resume.new.world c.args.binds.now c.resume.new.binds c.args.at c.args.scope c.args.next c.in_ok-frame.frame c.args.value s (ap (λ fs. slice_get fs c.args.at) (sym c.items.ensures) ∙ c.in_ok-frame.ensures) h)
    c.resume.ensures
