use Rattle.std.specs.Prelude.{◌≡◌, drop}
use Rattle.contract_census.specs.Counting.{use_rules}
use Rattle.contract_census.proofs.steps.use_rules.Given as goal

abbrev pub invariant-loop-rule : goal.invariant-loop-rule
invariant-loop-rule l = use_rules (drop l.rule-index l.rules) l.counts.items ≡ use_rules l.rules l.fn.counts.items
