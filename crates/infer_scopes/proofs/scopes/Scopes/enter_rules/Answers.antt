use Rattle.std.proofs.Common.{refl}
use Rattle.infer_state.specs.Names.{in_rules}
use Rattle.infer_scopes.proofs.ScopeFacts.{one_further, rules_both}
use Rattle.infer_scopes.proofs.scopes.Scopes.enter_rules.Goals as goal

pub rules-preserved : goal.rules-preserved
rules-preserved c =
    one_further (in_rules c.args.bare.now.nodes) (rules_both c.args.bare.now.nodes) c.args.rules.now c.rules.rule-index (record { pat = 0; body = 0 }) _ c.args.scope c.args.self.now c.rules.self c.enter_rule.new.self c.rules-test.true refl c.requires.scope c.rules.invariant c.in_ok-enter_rule.ensures
