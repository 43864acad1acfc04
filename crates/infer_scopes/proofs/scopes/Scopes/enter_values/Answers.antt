use Rattle.std.proofs.Common.{[]}
use Rattle.infer_state.specs.Names.{in_bindings}
use Rattle.infer_scopes.proofs.ScopeFacts.{if_ok, inner_gives, own_open}
use Rattle.infer_scopes.proofs.scopes.Scopes.enter_values.Goals as goal

pub returns : goal.returns
returns c =
    if_ok c.enter_bindings.result _ _ (λ u h. inner_gives c.args.scope c.in_ok-inner.inner c.args.self.now c.grow.new.self c.enter_bindings.new.self [] c.args.tyvars.now [] [] [] (λ t. in_bindings t.context c.args.bindings.now) (λ p. own_open p []) c.in_ok-inner.ensures.entered c.in_ok-inner.ensures.stands h) c.enter_bindings.ensures
