use Rattle.std.proofs.Common.{◌∷◌, []}
use Rattle.infer_state.specs.Names.{inside, in_rules}
use Rattle.infer_scopes.proofs.ScopeFacts.{if_ok, enters_then}
use Rattle.infer_scopes.proofs.scopes.Scopes.enter_match.Goals as goal

pub returns : goal.returns
returns c =
    if_ok c.enter_rules.result _ _ (λ u h. enters_then (λ t. inside t.context c.args.argument ∷ []) (λ t. in_rules c.args.bare.now.nodes t.context c.args.rules.now) c.args.scope c.args.self.now c.put.new.self c.enter_rules.new.self c.requires.scope c.in_ok-put.ensures h) c.enter_rules.ensures
