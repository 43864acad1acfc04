use Rattle.std.proofs.Common.{ap, ◌∙◌}
use Rattle.std.proofs.lemmas.Result.{IfOk-weaker}
use Rattle.close_seen.specs.Seen.{closed_from}
use Rattle.close_all.proofs.Tables.{entered_all}
use Rattle.close_all.proofs.all.close_all.Goals as goal

pub returns : goal.returns
returns c =
    let d = c.args.decisions.now in
    let bodies = c.args.bodies.now in
    IfOk-weaker c.close_from.result _ _
    (λ v h. h ∙ ap (λ t. closed_from d t 0 bodies) (entered_all d _ c.in_ok-begins.begins.items bodies _ _ c.in_ok-begins.ensures c.requires c.in_ok-enter_all.ensures.seen))
    c.close_from.ensures
