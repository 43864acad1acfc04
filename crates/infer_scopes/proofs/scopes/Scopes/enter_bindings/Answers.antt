use Rattle.std.proofs.Common.{refl}
use Rattle.infer_state.specs.Names.{in_bindings}
use Rattle.infer_scopes.proofs.ScopeFacts.{one_further, bindings_both}
use Rattle.infer_scopes.proofs.scopes.Scopes.enter_bindings.Goals as goal

pub bindings-preserved : goal.bindings-preserved
bindings-preserved c =
    one_further in_bindings bindings_both c.args.bindings.now c.bindings.binding-index (record { pat = 0; right = 0 }) _ c.args.scope c.args.self.now c.bindings.self c.put_both.new.self c.bindings-test.true refl c.requires c.bindings.invariant c.in_ok-put_both.ensures
