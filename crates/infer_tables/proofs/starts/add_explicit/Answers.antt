use Rattle.std.proofs.Common.{◌∷◌, ◌++◌, [], ap, ◌∙◌}
use Rattle.sml_types.specs.declared.types.TyForm.TheVariants.{Var}
use Rattle.infer_tables.proofs.StartFacts.{one_explicit}
use Rattle.infer_tables.proofs.starts.add_explicit.Goals as goal

pub tyvars-preserved : goal.tyvars-preserved
tyvars-preserved c =
    one_explicit c.args.bare.now c.args.types.now c.tyvars.types c.var.new.self c.tyvars.num c.tyvars.stands c.push.new.self c.in_ok-ty.ty c.tyvars.invariant c.in_ok-ty.ensures.ok.0 (c.in_ok-ty.ensures.ok.1 ∙ ap (λ v. c.tyvars.types ++ Var v ∷ []) c.explicit.ensures) c.in_ok-push.ensures.ok
