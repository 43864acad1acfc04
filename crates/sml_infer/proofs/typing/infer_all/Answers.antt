use Rattle.sml_infer.proofs.Searched.{none_at_all}
use Rattle.sml_infer.proofs.typing.infer_all.Goals as goal

pub refusal-requires-clause-untypable : goal.refusal-requires-clause-untypable
refusal-requires-clause-untypable c =
    let k = rw c.in-Err-Untypable.field-0-is at c.in-Err-Untypable.ensures.refused in
    none_at_all c.args.bare.now c.in-Ok.count k c.in-Ok.ensures
