use Rattle.std.proofs.Common.{◌≡◌, ◌≤◌, ◌++◌, length, drop, reverse}
use Rattle.cps_survey.specs.Steps.{rule_tasks}
use Rattle.cps_survey.proofs.tasks.push_rules.Given as goal

abbrev pub invariant-loop-i : goal.invariant-loop-i
invariant-loop-i l = record {
  within : l.i ≤ length l.rules;
  done : l.work.items ≡ l.fn.work.items ++ reverse (rule_tasks l.home (drop l.i l.rules));
}

abbrev pub decreases-loop-i : goal.decreases-loop-i
decreases-loop-i l = l.i
