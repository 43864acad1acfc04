use Rattle.std.proofs.Common.{◌∷◌, []}
use Rattle.infer_state.specs.Names.{inside}
use Rattle.infer_scopes.proofs.ScopeFacts.{if_ok, enters_then}
use Rattle.infer_scopes.proofs.scopes.Scopes.put_both.Goals as goal

pub returns : goal.returns
returns c =
    if_ok c.put-2.result _ _ (λ u h. enters_then (λ t. inside t.context c.args.first ∷ []) (λ t. inside t.context c.args.second ∷ []) c.args.scope c.args.self.now c.put.new.self c.put-2.new.self c.requires c.in_ok-put.ensures h) c.put-2.ensures
