use Rattle.std.specs.Prelude.{◌≡◌, ◌+◌, drop}
use Rattle.cps_contract.specs.Own.{rules_own}
use Rattle.cps_contract.proofs.nodes.rules_own.Given as goal

abbrev pub invariant-loop-rule : goal.invariant-loop-rule
invariant-loop-rule l = l.count + rules_own (drop l.rule-index l.rules) ≡ rules_own l.rules
