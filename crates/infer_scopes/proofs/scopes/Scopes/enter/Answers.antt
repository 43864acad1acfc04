use Rattle.std.proofs.Common.{refl}
use Rattle.infer_scopes.proofs.ScopeFacts.{if_ok, closed_around}
use Rattle.infer_scopes.proofs.scopes.Scopes.enter.Goals as goal

pub returns-clause-closed : goal.returns-clause-closed
returns-clause-closed c =
    if_ok c.enter_node.result _ _ (λ u h p all. closed_around _ c.in-Some.scope c.args.self.now c.enter_node.new.self c.args.node (c.in-Some.ensures.is c.in-Some.scope refl) h p all) c.enter_node.ensures
