use Rattle.std.specs.Prelude.{◌≡◌, ◌++◌, map, take}
use Rattle.cps_contract.proofs.nodes.push_rules.Given as goal

abbrev pub invariant-loop-rule : goal.invariant-loop-rule
invariant-loop-rule l = l.work.items ≡ l.fn.work.items ++ map (λ r. r.body) (take l.rule-index l.rules)
