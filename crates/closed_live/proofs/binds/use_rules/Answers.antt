use Rattle.std.proofs.Common.{◌++◌, refl, subst}
use Rattle.sml_tree.specs.Sets.{row_at}
use Rattle.place_laws.specs.Live.{used_by, used_by_tests}
use Rattle.closed_live.specs.Same.{AreSame}
use Rattle.closed_live.specs.Rows.{rule_live, rules_live}
use Rattle.closed_live.proofs.Steps.{over_more, three}
use Rattle.closed_live.proofs.binds.use_rules.Goals as goal

pub loop-rule-preserved : goal.loop-rule-preserved
loop-rule-preserved c =
    let part = row_at c.args.lives.now in
    let o = c.args.subject.now in
    let r = c.rule-item.result in
    over_more (rule_live part o) (rules_live part o) (λ x xs. refl) c.args.rules.now c.loop-rule.rule-index _ r c.args.set.now.keys c.loop-rule.set.keys c.use_operand.new.set.keys c.loop-rule-test.true c.rule-item.is c.loop-rule.invariant
    (three (used_by o) (used_by_tests r.tests) (part r.body) c.loop-rule.set.keys c.insert_all.new.set.keys c.use_tests.new.set.keys c.use_operand.new.set.keys
    (subst (λ us. AreSame c.insert_all.new.set.keys (us ++ c.loop-rule.set.keys)) c.row.ensures c.in_ok-insert_all.ensures)
    (subst (λ ts. AreSame c.use_tests.new.set.keys (used_by_tests ts ++ c.insert_all.new.set.keys)) c.items.ensures c.in_ok-use_tests.ensures)
    c.in_ok-use_operand.ensures)
