use Rattle.std.specs.Prelude.{map}
use Rattle.infer_state.specs.Names.{inside}
use Rattle.infer_scopes.proofs.ScopeFacts.{one_further, map_both}
use Rattle.infer_scopes.proofs.scopes.Scopes.enter_fields.Goals as goal

pub fields-preserved : goal.fields-preserved
fields-preserved c =
    one_further (λ k fs. map (λ f. inside k f.node) fs) (λ k. map_both (λ f. inside k f.node)) c.args.fields.now c.fields.field-index c.field-item.result c.field-item.result c.args.scope c.args.self.now c.fields.self c.put.new.self c.fields-test.true c.field-item.is c.requires c.fields.invariant c.in_ok-put.ensures
