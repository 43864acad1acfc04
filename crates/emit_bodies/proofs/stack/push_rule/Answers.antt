use Rattle.std.proofs.Common.{◌≡◌, ◌++◌, ◌∙◌, Some, None, slice_get, refl, sym, ap, arith}
use Rattle.std.specs.Prelude.{slice_index_or}
use Rattle.emit_bodies.specs.Layout.{rule_tasks}
use Rattle.emit_bodies.proofs.Pushed.{found_at, lost_at, both_pushed}
use Rattle.emit_bodies.proofs.stack.push_rule.Goals as goal

pub returns-in_ok-push-2 : goal.returns-in_ok-push-2
returns-in_ok-push-2 c =
    let e : slice_get c.args.rules.now c.args.place ≡ Some (slice_index_or c.args.rules.now c.args.place c.index-rules-at.result) = found_at c.args.rules.now c.args.place c.index-rules-at.result _ c.if-at-rules.true refl in
    λ L bodies. both_pushed c.args.tasks.now.items _ _ _ _ c.in_ok-push.ensures.items c.in_ok-push-2.ensures.items ∙ ap (λ q. c.args.tasks.now.items ++ rule_tasks L bodies c.args.number c.args.place c.args.group c.args.behind q) (sym e)

pub returns-in_ok-push-3 : goal.returns-in_ok-push-3
returns-in_ok-push-3 c =
    let e : slice_get c.args.rules.now c.args.place ≡ None = lost_at c.args.rules.now c.args.place (omega (arith, c.if-at-rules.false)) in
    λ L bodies. c.in_ok-push-3.ensures.items ∙ ap (λ q. c.args.tasks.now.items ++ rule_tasks L bodies c.args.number c.args.place c.args.group c.args.behind q) (sym e)
