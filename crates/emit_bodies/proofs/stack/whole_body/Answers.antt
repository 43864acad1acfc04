use Rattle.std.proofs.Common.{◌∷◌, ◌++◌, ◌∙◌, length, ap}
use Rattle.emit_code.specs.Steps.{last_group}
use Rattle.emit_bodies.specs.declared.task.Task.TheVariants.{Rules}
use Rattle.emit_bodies.specs.Layout.{rules_of, otherwise_task}
use Rattle.emit_bodies.proofs.Pushed.{more_pushed}
use Rattle.emit_bodies.proofs.stack.whole_body.Goals as goal

pub returns-clause-tasks : goal.returns-clause-tasks
returns-clause-tasks c =
    let L = c.args.labels.now in
    let old = c.args.tasks.now.items in
    let e = c.args.body.now.end in
    λ bodies. more_pushed old _ _ _ _ c.in_ok-push.ensures.items (c.in_ok-push_otherwise.ensures L bodies)
    ∙ ap (λ n. old ++ Rules c.args.number n c.args.group ∷ otherwise_task L bodies c.in_ok-last.last e) (c.in_ok-left.ensures ∙ ap length c.rules_of.ensures)
    ∙ ap (λ n. old ++ Rules c.args.number (length (rules_of e)) c.args.group ∷ otherwise_task L bodies n e) (c.in_ok-last.ensures ∙ ap (last_group c.args.group) c.items.ensures)
