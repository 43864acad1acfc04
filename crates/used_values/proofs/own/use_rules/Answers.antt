use Rattle.std.proofs.Common.{subst}
use Rattle.sml_tree.specs.Sets.{union}
use Rattle.cps_ir.specs.Free.{vars_tests}
use Rattle.cps_free.specs.Same.{AreSame}
use Rattle.cps_free.proofs.Steps.{over_more}
use Rattle.used_values.proofs.own.use_rules.Goals as goal

pub loop-rule-preserved : goal.loop-rule-preserved
loop-rule-preserved c =
    over_more (λ r. vars_tests r.tests) c.args.rules.now c.loop-rule.rule-index _ c.rule-item.result c.args.set.now.keys c.loop-rule.set.keys c.use_tests.new.set.keys c.loop-rule-test.true c.rule-item.is c.loop-rule.invariant
    (subst (λ ts. AreSame c.use_tests.new.set.keys (union (vars_tests ts) c.loop-rule.set.keys)) c.items.ensures c.in_ok-use_tests.ensures)
