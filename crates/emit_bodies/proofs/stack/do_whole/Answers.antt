use Rattle.std.proofs.Common.{◌≡◌, ◌++◌, ◌∙◌, Some, None, slice_get, sym, ap, arith}
use Rattle.emit_bodies.specs.Layout.{whole_tasks, whole_text}
use Rattle.emit_bodies.proofs.Pushed.{found_at, lost_at, tasks_none}
use Rattle.emit_bodies.proofs.stack.do_whole.Goals as goal

pub returns-in_ok-whole_body-clause-tasks : goal.returns-in_ok-whole_body-clause-tasks
returns-in_ok-whole_body-clause-tasks c =
    let e : slice_get c.args.bodies.now c.args.number ≡ Some c.index-bodies-at.result = found_at c.args.bodies.now c.args.number _ c.index-bodies-at.result c.if-at-bodies.true c.index-bodies-at.is in
    c.in_ok-whole_body.ensures.tasks c.args.bodies.now ∙ ap (λ o. c.args.tasks.now.items ++ whole_tasks c.args.labels.now c.args.bodies.now c.args.number c.args.group o) (sym e)

pub returns-in_ok-whole_body-clause-text : goal.returns-in_ok-whole_body-clause-text
returns-in_ok-whole_body-clause-text c =
    let e : slice_get c.args.bodies.now c.args.number ≡ Some c.index-bodies-at.result = found_at c.args.bodies.now c.args.number _ c.index-bodies-at.result c.if-at-bodies.true c.index-bodies-at.is in
    c.in_ok-whole_body.ensures.text ∙ ap (λ o. whole_text c.args.labels.now c.args.bodies.now o ++ c.args.text.now) (sym e)

pub returns-in_ok-halt_in_front-clause-tasks : goal.returns-in_ok-halt_in_front-clause-tasks
returns-in_ok-halt_in_front-clause-tasks c =
    let e : slice_get c.args.bodies.now c.args.number ≡ None = lost_at c.args.bodies.now c.args.number (omega (arith, c.if-at-bodies.false)) in
    sym (ap (λ o. c.args.tasks.now.items ++ whole_tasks c.args.labels.now c.args.bodies.now c.args.number c.args.group o) e ∙ tasks_none c.args.tasks.now.items)

pub returns-in_ok-halt_in_front-clause-text : goal.returns-in_ok-halt_in_front-clause-text
returns-in_ok-halt_in_front-clause-text c =
    let e : slice_get c.args.bodies.now c.args.number ≡ None = lost_at c.args.bodies.now c.args.number (omega (arith, c.if-at-bodies.false)) in
    c.in_ok-halt_in_front.ensures ∙ ap (λ o. whole_text c.args.labels.now c.args.bodies.now o ++ c.args.text.now) (sym e)
