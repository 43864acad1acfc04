use Rattle.std.proofs.Common.{◌+◌, ◌<◌, [], ◌∷◌, ◌∙◌, refl, sym, ap, subst, slice_get}
use Rattle.rv_asm.specs.Item as item
use Rattle.emit_bodies.specs.declared.task.Task.TheVariants.{Whole, Rules, Tests}
use Rattle.emit_bodies.specs.Layout.{text_of, laid}
use Rattle.emit_bodies.specs.Weights.{task_weight, tasks_weight}
use Rattle.emit_bodies.proofs.Laws.{whole_law, rules_law, tests_law}
use Rattle.emit_bodies.proofs.Weighing.{whole_less, rules_less, tests_less}
use Rattle.emit_bodies.proofs.Onward.{step_text, step_less}
use Rattle.emit_bodies.proofs.body.do_task.Goals as goal

pub returns-in_ok-do_whole-in-Whole-clause-text : goal.returns-in_ok-do_whole-in-Whole-clause-text
returns-in_ok-do_whole-in-Whole-clause-text c =
    let L = c.args.labels.now in
    let bodies = c.args.bodies.now in
    let e = c.in_ok-do_whole-in-Whole.ensures in
    step_text L bodies c.args.tasks.now.items _ _ (Whole c.in-Whole.body c.in-Whole.group) c.args.text.now _ _ e.tasks e.text (whole_law L bodies c.requires c.in-Whole.body c.in-Whole.group (slice_get bodies c.in-Whole.body) c.args.text.now refl)
    ∙ ap (λ t. laid L bodies c.args.tasks.now.items (text_of L bodies t c.args.text.now)) (sym c.in-Whole.is)

pub returns-in_ok-do_whole-in-Whole-clause-less : goal.returns-in_ok-do_whole-in-Whole-clause-less
returns-in_ok-do_whole-in-Whole-clause-less c =
    let L = c.args.labels.now in
    let bodies = c.args.bodies.now in
    let e = c.in_ok-do_whole-in-Whole.ensures in
    subst (λ t. tasks_weight bodies c.do_whole.new.tasks.items < tasks_weight bodies c.args.tasks.now.items + task_weight bodies t) (sym c.in-Whole.is)
    (step_less bodies c.requires c.args.tasks.now.items _ _ (Whole c.in-Whole.body c.in-Whole.group) e.tasks (whole_less bodies c.requires L c.in-Whole.body c.in-Whole.group (slice_get bodies c.in-Whole.body) refl))

pub returns-in_ok-do_rules-in-Rules-clause-text : goal.returns-in_ok-do_rules-in-Rules-clause-text
returns-in_ok-do_rules-in-Rules-clause-text c =
    let L = c.args.labels.now in
    let bodies = c.args.bodies.now in
    let e = c.in_ok-do_rules-in-Rules.ensures in
    step_text L bodies c.args.tasks.now.items _ _ (Rules c.in-Rules.body c.in-Rules.left c.in-Rules.group) c.args.text.now _ _ e.tasks e.text (rules_law L bodies c.in-Rules.body c.in-Rules.left c.in-Rules.group (slice_get bodies c.in-Rules.body) c.args.text.now refl)
    ∙ ap (λ t. laid L bodies c.args.tasks.now.items (text_of L bodies t c.args.text.now)) (sym c.in-Rules.is)

pub returns-in_ok-do_rules-in-Rules-clause-less : goal.returns-in_ok-do_rules-in-Rules-clause-less
returns-in_ok-do_rules-in-Rules-clause-less c =
    let L = c.args.labels.now in
    let bodies = c.args.bodies.now in
    let e = c.in_ok-do_rules-in-Rules.ensures in
    subst (λ t. tasks_weight bodies c.do_rules.new.tasks.items < tasks_weight bodies c.args.tasks.now.items + task_weight bodies t) (sym c.in-Rules.is)
    (step_less bodies c.requires c.args.tasks.now.items _ _ (Rules c.in-Rules.body c.in-Rules.left c.in-Rules.group) e.tasks (rules_less bodies c.requires L c.in-Rules.body c.in-Rules.left c.in-Rules.group (item.words c.args.text.now) (slice_get bodies c.in-Rules.body) refl))

pub returns-in_ok-push-in-Tests-clause-text : goal.returns-in_ok-push-in-Tests-clause-text
returns-in_ok-push-in-Tests-clause-text c =
    let L = c.args.labels.now in
    let bodies = c.args.bodies.now in
    step_text L bodies c.args.tasks.now.items _ (Rules c.in-Tests.body c.in-Tests.rule c.in-Tests.group ∷ []) (Tests c.in-Tests.body c.in-Tests.rule c.in-Tests.behind c.in-Tests.group) c.args.text.now _ _ c.in_ok-push-in-Tests.ensures.items c.in_ok-do_tests-in-Tests.ensures
    (tests_law L bodies c.in-Tests.body c.in-Tests.rule c.in-Tests.behind c.in-Tests.group (slice_get bodies c.in-Tests.body) c.args.text.now refl)
    ∙ ap (λ t. laid L bodies c.args.tasks.now.items (text_of L bodies t c.args.text.now)) (sym c.in-Tests.is)

pub returns-in_ok-push-in-Tests-clause-less : goal.returns-in_ok-push-in-Tests-clause-less
returns-in_ok-push-in-Tests-clause-less c =
    let bodies = c.args.bodies.now in
    subst (λ t. tasks_weight bodies c.push.new.self.items < tasks_weight bodies c.args.tasks.now.items + task_weight bodies t) (sym c.in-Tests.is)
    (step_less bodies c.requires c.args.tasks.now.items _ (Rules c.in-Tests.body c.in-Tests.rule c.in-Tests.group ∷ []) (Tests c.in-Tests.body c.in-Tests.rule c.in-Tests.behind c.in-Tests.group) c.in_ok-push-in-Tests.ensures.items (tests_less bodies c.requires c.in-Tests.body c.in-Tests.rule c.in-Tests.behind c.in-Tests.group))
