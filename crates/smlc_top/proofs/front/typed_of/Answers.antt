use Rattle.smlc_top.proofs.Fronts.{front_fails, types_fail, has_types}
use Rattle.smlc_top.proofs.front.typed_of.Goals as goal

pub returns-in-Err-clause-err : goal.returns-in-Err-clause-err
returns-in-Err-clause-err c = front_fails _ c.in-Err.e c.in-Err.ensures.err

pub returns-in-Ok-infer-clause-ok : goal.returns-in-Ok-infer-clause-ok
returns-in-Ok-infer-clause-ok c = has_types _ c.in-Ok.bare c.in-Ok-infer.typed c.in-Ok.ensures.ok c.in-Ok-infer.ensures.ok

pub returns-in-Err-infer-clause-err : goal.returns-in-Err-infer-clause-err
returns-in-Err-infer-clause-err c = types_fail _ c.in-Ok.bare c.in-Err-infer.e c.in-Ok.ensures.ok c.in-Err-infer.ensures.err
