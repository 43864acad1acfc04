use Rattle.std.proofs.Common.{◌≡◌, ◌≤◌, ◌++◌, length, drop}
use Rattle.sml_unify.specs.Tasks.{parts_tasks}
use Rattle.sml_unify.proofs.task.add_parts.Given as goal

abbrev pub invariant-parts : goal.invariant-parts
invariant-parts l = record {
  within : l.i ≤ length l.xs;
  done : l.tasks.items ≡ l.fn.tasks.items ++ parts_tasks (drop l.i l.xs) (drop l.i l.ys);
}

abbrev pub decreases-parts : goal.decreases-parts
decreases-parts l = l.i
