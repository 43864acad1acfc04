use Rattle.std.proofs.Common.{nat_eq}
use Rattle.indexmap.specs.IndexMap.{get}
use Rattle.sml_unify.specs.Tasks.{pairs_of}
use Rattle.sml_unify.proofs.Runs.{IsRun, left_over}
use Rattle.sml_unify.proofs.simplify.run.Given as goal

abbrev pub invariant-tasks : goal.invariant-tasks
invariant-tasks l = IsRun l.forms l.bound (pairs_of l.fn.tasks.items) l.tasks.items (get nat_eq l.links)

abbrev pub decreases-tasks : goal.decreases-tasks
decreases-tasks l = left_over l.forms l.bound (get nat_eq l.links) l.tasks.items
