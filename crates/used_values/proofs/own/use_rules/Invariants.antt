use Rattle.std.specs.Prelude.{take}
use Rattle.sml_tree.specs.Sets.{union}
use Rattle.cps_free.specs.Same.{AreSame}
use Rattle.used_values.specs.Own.{own_rules}
use Rattle.used_values.proofs.own.use_rules.Given as goal

abbrev pub invariant-loop-rule : goal.invariant-loop-rule
invariant-loop-rule l = AreSame l.set.keys (union (own_rules (take l.rule-index l.rules)) l.fn.set.keys)
