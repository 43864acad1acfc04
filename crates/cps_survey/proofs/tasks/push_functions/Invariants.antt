use Rattle.std.proofs.Common.{◌≡◌, ◌≤◌, ◌++◌, length, drop, reverse}
use Rattle.std.specs.Prelude.{flat_map}
use Rattle.sml_tree.specs.Sets.{row_at}
use Rattle.cps_survey.specs.Steps.{function_tasks}
use Rattle.cps_survey.proofs.tasks.push_functions.Given as goal

abbrev pub invariant-loop-i : goal.invariant-loop-i
invariant-loop-i l = record {
  within : l.i ≤ length l.functions;
  done : l.work.items ≡ l.fn.work.items ++ reverse (flat_map (function_tasks (row_at l.frees)) (drop l.i l.functions));
}

abbrev pub decreases-loop-i : goal.decreases-loop-i
decreases-loop-i l = l.i
