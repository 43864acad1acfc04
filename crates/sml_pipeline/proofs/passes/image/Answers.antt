use Rattle.std.proofs.lemmas.Result.{IfOk-weaker}
use Rattle.sml_pipeline.proofs.passes.image.Goals as goal

pub returns-clause-image : goal.returns-clause-image
returns-clause-image c =
    IfOk-weaker c.emit.result _ _ (λ image e. record { placed = _; plan = _; becomes = c.in_ok-program.ensures; is = e }) c.emit.ensures.image
