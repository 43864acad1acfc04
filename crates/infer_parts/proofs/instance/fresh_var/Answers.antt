use Rattle.std.proofs.Common.{◌+◌, ◌∷◌, [], List, sym, subst, arith, length-append}
use Rattle.sml_types.specs.declared.types.TyVar.{TyVar}
use Rattle.sml_types.specs.declared.types.TyForm.{TyForm}
use Rattle.sml_types.specs.declared.types.TyForm.TheVariants.{Var}
use Rattle.sml_unify.specs.Steps.{IsLonger, AreBelow}
use Rattle.infer_parts.specs.Instances.{IsNewVar}
use Rattle.infer_parts.proofs.CopySteps.{longer_by_one}
use Rattle.infer_parts.proofs.InstanceSteps.{below_more, below_up, new_var, last_there}
use Rattle.infer_parts.proofs.instance.fresh_var.Goals as goal

pub returns-clause-ok : goal.returns-clause-ok
returns-clause-ok c =
    let v : TyVar = record { num = c.args.next.now; eq = c.args.eq } in
    let at = c.in_ok-ty.ensures.ok.0 in
    let grown = c.in_ok-ty.ensures.ok.1 in
    subst
    (λ (forms : List TyForm). IsNewVar c.args.next.now c.args.eq forms c.in_ok-ty.ty)
    (sym grown)
    (record { num = c.args.next.now; above = omega arith; there = omega (arith, at, length-append c.args.types.now (Var v ∷ [])); form = last_there c.args.types.now (Var v) c.in_ok-ty.ty.0 at; is = new_var c.args.types.now v c.in_ok-ty.ty at })

pub returns-clause-below : goal.returns-clause-below
returns-clause-below c =
    let v : TyVar = record { num = c.args.next.now; eq = c.args.eq } in
    subst
    (λ (forms : List TyForm). AreBelow forms (c.args.next.now + 1))
    (sym c.in_ok-ty.ensures.ok.1)
    (below_more c.args.types.now v (c.args.next.now + 1) (below_up c.args.types.now c.args.next.now (c.args.next.now + 1) (omega arith) c.requires.below) (omega arith))

pub returns-clause-longer : goal.returns-clause-longer
returns-clause-longer c =
    let v : TyVar = record { num = c.args.next.now; eq = c.args.eq } in
    subst (λ (forms : List TyForm). IsLonger c.args.types.now forms) (sym c.in_ok-ty.ensures.ok.1) (longer_by_one c.args.types.now (Var v))
