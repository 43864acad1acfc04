use Rattle.std.proofs.Common.{[], ◌∷◌}
use Rattle.sml_tree.specs.declared.bare.RecBinding.{RecBinding}
use Rattle.infer_state.specs.Fits.{settled_at}
use Rattle.infer_checks.specs.Checked.{ending}
use Rattle.infer_checks.specs.Node.{IsGeneralised}
use Rattle.infer_checks.proofs.ListFacts.{all_take}
use Rattle.infer_checks.proofs.values.check_rec_bindings.Goals as goal

pub bindings-preserved : goal.bindings-preserved
bindings-preserved c around q =
    let p = c.args.bare.now in
    let u = c.args.unknowns.now in
    all_take (λ (b : RecBinding). IsGeneralised p (settled_at u.types c.args.settled.now) (ending u c.args.renames.now) c.args.general.now around b.right (b.name.0 ∷ [])) c.args.bindings.now c.bindings.binding-index _ c.bindings-test.true (c.bindings.invariant around q) (c.in_ok-check_rec_binding.ensures around q)
