use Rattle.std.proofs.Common.{◌≡◌, ◌≤◌, ◌++◌, length, drop, map, reverse}
use Rattle.cps_survey.specs.Steps.{bound_in}
use Rattle.cps_survey.proofs.tasks.push_params.Given as goal

abbrev pub invariant-loop-i : goal.invariant-loop-i
invariant-loop-i l = record {
  within : l.i ≤ length l.params;
  done : l.work.items ≡ l.fn.work.items ++ reverse (map (bound_in l.home) (drop l.i l.params));
}

abbrev pub decreases-loop-i : goal.decreases-loop-i
decreases-loop-i l = l.i
