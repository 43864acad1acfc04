use Rattle.std.specs.Prelude.{◌≡◌, ◌++◌, map, take}
use Rattle.contract_census.specs.Tasks.{rule_task}
use Rattle.contract_census.proofs.task.push_rules.Given as goal

abbrev pub invariant-loop-rule : goal.invariant-loop-rule
invariant-loop-rule l = l.work.items ≡ l.fn.work.items ++ map (rule_task l.within) (take l.rule-index l.rules)
