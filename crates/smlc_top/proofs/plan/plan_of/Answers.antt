use Rattle.smlc_top.proofs.Planning.{refused_planned, told_planned}
use Rattle.smlc_top.proofs.plan.plan_of.Goals as goal

pub tell-requires : goal.tell-requires
tell-requires c = c.in-Ok.ensures.ok.tree.expands.is_bare

pub returns-in-Ok : goal.returns-in-Ok
returns-in-Ok c = told_planned _ _ c.in-Ok.typed c.tell.result c.in-Ok.ensures.ok c.tell.ensures

pub returns-in-Err-Refused : goal.returns-in-Err-Refused
returns-in-Err-Refused c =
    let k = rw c.in-Err-Refused.field-0-is at c.in-Err-Refused.ensures.err in
    refused_planned _ _ c.in-Err-Refused.refusal c.refuse.result k c.refuse.ensures
