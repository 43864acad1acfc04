use Rattle.infer_scopes.proofs.ScopeFacts.{if_ok, rule_gives}
use Rattle.infer_scopes.proofs.scopes.Scopes.enter_rule.Goals as goal

pub returns : goal.returns
returns c =
    if_ok c.put-2.result _ _ (λ u h. rule_gives c.args.bare.now.nodes c.args.rule c.args.scope c.in_ok-inner.inner c.args.self.now c.put.new.self c.with_names.new.self c.put-2.new.self c.in_ok-names.names.items _ c.requires.scope c.in_ok-put.ensures c.in_ok-names.ensures c.deref.ensures.value c.in_ok-inner.ensures.entered c.in_ok-inner.ensures.stands h) c.put-2.ensures
