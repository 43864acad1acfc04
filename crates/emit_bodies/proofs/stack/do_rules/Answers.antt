use Rattle.std.proofs.Common.{◌≡◌, ◌++◌, ◌∙◌, Some, None, slice_get, sym, ap, arith}
use Rattle.rv_asm.specs.Item as item
use Rattle.emit_bodies.specs.Layout.{rules_tasks, steps_of}
use Rattle.emit_bodies.proofs.Pushed.{found_at, lost_at, tasks_none}
use Rattle.emit_bodies.proofs.stack.do_rules.Goals as goal

pub returns-in_ok-rules_body-clause-text : goal.returns-in_ok-rules_body-clause-text
returns-in_ok-rules_body-clause-text c =
    let e : slice_get c.args.bodies.now c.args.number ≡ Some c.index-bodies-at.result = found_at c.args.bodies.now c.args.number _ c.index-bodies-at.result c.if-at-bodies.true c.index-bodies-at.is in
    c.in_ok-rules_body.ensures.text c.args.bodies.now ∙ ap (λ o. steps_of c.args.labels.now c.args.bodies.now c.args.left c.args.group o ++ c.args.text.now) (sym e)

pub returns-else-at-bodies-clause-tasks : goal.returns-else-at-bodies-clause-tasks
returns-else-at-bodies-clause-tasks c =
    let e : slice_get c.args.bodies.now c.args.number ≡ None = lost_at c.args.bodies.now c.args.number (omega (arith, c.if-at-bodies.false)) in
    sym (ap (λ o. c.args.tasks.now.items ++ rules_tasks c.args.labels.now c.args.bodies.now c.args.number c.args.left c.args.group (item.words c.args.text.now) o) e ∙ tasks_none c.args.tasks.now.items)

pub returns-else-at-bodies-clause-text : goal.returns-else-at-bodies-clause-text
returns-else-at-bodies-clause-text c =
    let e : slice_get c.args.bodies.now c.args.number ≡ None = lost_at c.args.bodies.now c.args.number (omega (arith, c.if-at-bodies.false)) in
    sym (ap (λ o. steps_of c.args.labels.now c.args.bodies.now c.args.left c.args.group o ++ c.args.text.now) e)
