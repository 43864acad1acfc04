use Rattle.std.proofs.lemmas.Result.{IfOk-weaker}
use Rattle.sml_pipeline.proofs.passes.plan_lines.Goals as goal

pub returns : goal.returns
returns c =
    IfOk-weaker c.text_of.result _ _ (λ text e. record { placed = _; plan = _; becomes = c.in_ok-program.ensures; is = e }) c.text_of.ensures
