use Rattle.std.proofs.Common.{◌≡◌, ◌++◌, map, take}
use Rattle.used_values.proofs.parts.push_rules.Given as goal

abbrev pub invariant-loop-rule : goal.invariant-loop-rule
invariant-loop-rule l = l.work.items ≡ l.fn.work.items ++ map (λ x. x.body) (take l.rule-index l.rules)
