use Rattle.std.proofs.Common.{◌∷◌, [], ◌++◌, ap, ◌∙◌}
use Rattle.variable_users.proofs.Putting.{on_ok}
use Rattle.live_classes.proofs.Grouping.{added}
use Rattle.live_classes.proofs.groups.add.Goals as goal

pub returns : goal.returns
returns c =
    on_ok c.put.result _ _ (added c.args.groups.now c.taken-row.new.groups c.put.new.groups c.args.key c.push.new.self c.args.x (c.in_ok-push.ensures.ok ∙ ap (λ row. row ++ c.args.x ∷ []) c.taken-row.ensures.row) c.taken-row.ensures.rest) c.put.ensures
