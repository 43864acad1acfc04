use Rattle.std.proofs.Common.{◌≡◌, ◌++◌, length}
use Rattle.contract_steps.specs.Steps.{rules_from, rule_bodies, rule_tasks}
use Rattle.contract_steps.proofs.matches.begin_rules.Given as goal

abbrev pub invariant-loop-rule : goal.invariant-loop-rule
invariant-loop-rule l = record {
  rules : l.begun.items ++ rules_from (length l.bodies.items) l.rule-iterator.rest.items ≡ rules_from (length l.fn.bodies.items) l.fn.rules.items;
  bodies : rule_bodies l.rule-iterator.rest.items l.bodies.items ≡ rule_bodies l.fn.rules.items l.fn.bodies.items;
  work : rule_tasks l.root (length l.bodies.items) l.rule-iterator.rest.items l.work.items ≡ rule_tasks l.root (length l.fn.bodies.items) l.fn.rules.items l.fn.work.items;
}
