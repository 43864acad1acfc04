use Rattle.std.proofs.Common.{sym, ap, ◌∙◌}
use Rattle.std.proofs.lemmas.Result.{IfOk-weaker}
use Rattle.close_steps.specs.Visible.{visible}
use Rattle.close_groups.specs.Group.{behind}
use Rattle.close_bodies.specs.Bodies.{seen_behind}
use Rattle.close_bodies.proofs.binds.lower_bind.Goals as goal

pub returns-in-Fix-clause-seen : goal.returns-in-Fix-clause-seen
returns-in-Fix-clause-seen c =
    IfOk-weaker c.push_functions.result _ _
    (λ e h. h ∙ ap (behind c.args.decisions.now (visible c.args.scopes.now c.args.environment)) c.items-in-Fix.ensures ∙ sym (ap (seen_behind c.args.decisions.now (visible c.args.scopes.now c.args.environment)) c.in-Fix.is))
    c.push_functions.ensures.seen
