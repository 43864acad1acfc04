use Rattle.sml_infer.proofs.Searched.{has_one_of, has_none}
use Rattle.sml_infer.proofs.search.has_typing.Goals as goal

pub returns-in-Ok : goal.returns-in-Ok
returns-in-Ok c = has_one_of c.args.bare.now c.args.declarations c.in_ok-count.count c.infer_below.result _ c.in-Ok.is c.infer_below.ensures.ok c.in_ok-count.ensures

pub returns-in-Err-Untypable : goal.returns-in-Err-Untypable
returns-in-Err-Untypable c =
    let k = rw c.in-Err-Untypable.field-0-is at c.in-Err-Untypable.ensures.refused in
    has_none c.args.bare.now c.args.declarations c.in_ok-count.count k c.in_ok-count.ensures
