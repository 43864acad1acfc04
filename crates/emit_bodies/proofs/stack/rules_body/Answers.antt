use Rattle.std.proofs.Common.{◌<◌, ◌-◌, ◌++◌, ◌∙◌, slice_get, sym, ap, arith}
use Rattle.rv_asm.specs.Item as item
use Rattle.emit_bodies.specs.Layout.{rule_tasks}
use Rattle.emit_bodies.proofs.Pushed.{rule_last}
use Rattle.emit_bodies.proofs.stack.rules_body.Goals as goal

pub returns-in_ok-push_rule-clause-tasks : goal.returns-in_ok-push_rule-clause-tasks
returns-in_ok-push_rule-clause-tasks c =
    let L = c.args.labels.now in
    let old = c.args.tasks.now.items in
    let last = c.args.left - 1 in
    let some : 0 < c.args.left = omega (arith, c.if-left-eq0.false) in
    λ bodies. c.in_ok-push_rule.ensures L bodies
    ∙ ap (λ n. old ++ rule_tasks L bodies c.args.number last c.args.group n (slice_get c.rules_of.result.now last)) c.words-behind.ensures
    ∙ ap (λ rs. old ++ rule_tasks L bodies c.args.number last c.args.group (item.words c.args.text.now) (slice_get rs last)) c.rules_of.ensures
    ∙ ap (λ ts. old ++ ts) (sym (rule_last L bodies c.args.number c.args.left c.args.group c.args.body.now (item.words c.args.text.now) some))
