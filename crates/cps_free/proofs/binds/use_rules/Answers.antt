use Rattle.std.proofs.Common.{[], subst}
use Rattle.sml_tree.specs.Sets.{union, without, row_at}
use Rattle.cps_ir.specs.Free.{vars_tests}
use Rattle.cps_free.specs.Same.{AreSame}
use Rattle.cps_free.proofs.Steps.{rule_more}
use Rattle.cps_free.proofs.binds.use_rules.Goals as goal

pub loop-rule-preserved : goal.loop-rule-preserved
loop-rule-preserved c =
    rule_more (row_at c.args.frees.now) c.args.rules.now c.loop-rule.rule-index _ c.rule-item.result c.args.set.now.keys c.loop-rule.set.keys c.insert_but.new.set.keys c.use_tests.new.set.keys c.loop-rule-test.true c.rule-item.is c.loop-rule.invariant
    (subst (λ us. AreSame c.insert_but.new.set.keys (union (without us []) c.loop-rule.set.keys)) c.row.ensures c.in_ok-insert_but.ensures)
    (subst (λ ts. AreSame c.use_tests.new.set.keys (union (vars_tests ts) c.insert_but.new.set.keys)) c.items.ensures c.in_ok-use_tests.ensures)
