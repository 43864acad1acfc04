use Rattle.std.proofs.Common.{refl}
use Rattle.std.specs.Prelude.{map}
use Rattle.infer_state.specs.Names.{inside}
use Rattle.infer_scopes.proofs.ScopeFacts.{one_further, map_both}
use Rattle.infer_scopes.proofs.scopes.Scopes.enter_rights.Goals as goal

pub bindings-preserved : goal.bindings-preserved
bindings-preserved c =
    one_further (λ k bs. map (λ b. inside k b.right) bs) (λ k. map_both (λ b. inside k b.right)) c.args.bindings.now c.bindings.binding-index (record { name = record { 0 = 0 }; right = 0 }) _ c.args.scope c.args.self.now c.bindings.self c.put.new.self c.bindings-test.true refl c.requires c.bindings.invariant c.in_ok-put.ensures
