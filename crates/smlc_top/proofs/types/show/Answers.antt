use Rattle.smlc_top.proofs.Telling.{refused_shown, told_shown}
use Rattle.smlc_top.proofs.types.show.Goals as goal

pub tell-requires-clause-bare : goal.tell-requires-clause-bare
tell-requires-clause-bare c = c.in-Ok.ensures.ok.tree.expands.is_bare

pub tell-requires-clause-inferred : goal.tell-requires-clause-inferred
tell-requires-clause-inferred c = c.in-Ok.ensures.ok.inferred

pub returns-in-Ok : goal.returns-in-Ok
returns-in-Ok c = told_shown _ _ c.in-Ok.typed.bare c.tell.result c.in-Ok.ensures.ok.tree c.tell.ensures

pub returns-in-Err-Refused : goal.returns-in-Err-Refused
returns-in-Err-Refused c =
    let k = rw c.in-Err-Refused.field-0-is at c.in-Err-Refused.ensures.err in
    refused_shown _ _ c.in-Err-Refused.refusal c.refuse.result k c.refuse.ensures
