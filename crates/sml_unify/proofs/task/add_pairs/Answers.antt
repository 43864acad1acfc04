use Rattle.std.proofs.Common.{Some, [], ◌∷◌, ◌++◌, take, sym, ap, ◌∙◌, append_assoc}
use Rattle.std.proofs.lemmas.Option.{slice_get-get_or}
use Rattle.sml_unify.specs.Tasks.{pairs_of}
use Rattle.sml_unify.specs.declared.task.Task.TheVariants.{Link}
use Rattle.sml_unify.proofs.Runs.{pairs_step, pairs_skip}
use Rattle.sml_unify.proofs.task.add_pairs.Goals.{in-Unify+in_ok-push, in_default}
use Rattle.sml_unify.proofs.task.add_pairs.Goals as goal

pub tasks-preserved : goal.tasks-preserved
tasks-preserved c =
    elim c.match-task.branch [
      | in-Unify+in_ok-push w ↦ ap (λ (v : _). v.items) w.pairs-is ∙ w.in_ok-push.ensures.items ∙ ap (λ ps. ps ++ w.in-Unify.pair ∷ []) c.tasks.invariant ∙ append_assoc c.args.pairs.now.items (pairs_of (take c.tasks.task-index c.args.tasks.now)) (w.in-Unify.pair ∷ []) ∙ ap (λ ps. c.args.pairs.now.items ++ ps) (sym (pairs_step c.args.tasks.now c.tasks.task-index w.in-Unify.pair (slice_get-get_or c.args.tasks.now c.tasks.task-index _ c.tasks-test.true ∙ ap Some w.in-Unify.is)))
      | in_default w ↦ ap (λ (v : _). v.items) w.pairs-is ∙ c.tasks.invariant ∙ ap (λ ps. c.args.pairs.now.items ++ ps) (sym (pairs_skip c.args.tasks.now c.tasks.task-index (Link w.in_default.field-0) (slice_get-get_or c.args.tasks.now c.tasks.task-index _ c.tasks-test.true ∙ ap Some w.in_default.is) (λ p n. cc)))
    ]
