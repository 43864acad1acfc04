use Rattle.std.proofs.Common.{◌≡◌, ◌++◌, take}
use Rattle.sml_unify.specs.Tasks.{pairs_of}
use Rattle.sml_unify.proofs.task.add_pairs.Given as goal

abbrev pub invariant-tasks : goal.invariant-tasks
invariant-tasks l = l.pairs.items ≡ l.fn.pairs.items ++ pairs_of (take l.task-index l.tasks)
