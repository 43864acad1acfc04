use Rattle.std.proofs.Common.{◌≡◌, suc, ◌+◌, ◌++◌, ◌∷◌, [], List, take, false, refl, sym, ap, ◌∙◌, subst, arith}
use Rattle.std.specs.Prelude.{get_or}
use Rattle.std.proofs.Math.Seq.{take-suc}
use Rattle.sml_types.specs.declared.types.TyVar.{TyVar}
use Rattle.infer_parts.specs.declared.given.Given.{Given}
use Rattle.infer_parts.specs.Instances.{AreNewVars}
use Rattle.infer_parts.proofs.CopySteps.{longer_then}
use Rattle.infer_parts.proofs.InstanceSteps.{news_more, news_longer}
use Rattle.infer_parts.proofs.instance.fresh_vars.Goals as goal

pub each-preserved : goal.each-preserved
each-preserved c =
    let none : TyVar = record { num = 0; eq = false } in
    let var : TyVar = get_or c.args.vars.now c.each.var-index none in
    let given : Given = record { num = var.num; ty = c.in_ok-ty.ty } in
    let old = news_longer c.args.next.now (take c.each.var-index c.args.vars.now) c.each.types c.fresh_var.new.types c.each.given.items c.in_ok-ty.ensures.longer c.each.invariant.new in
    let new = news_more c.args.next.now c.each.next (take c.each.var-index c.args.vars.now) var c.fresh_var.new.types c.each.given.items given c.each.invariant.raised old refl c.in_ok-ty.ensures.ok in
    let next : c.each.var-index + 1 ≡ suc c.each.var-index = omega arith in
    let taken : take (c.each.var-index + 1) c.args.vars.now ≡ take c.each.var-index c.args.vars.now ++ var ∷ [] = ap (λ k. take k c.args.vars.now) next ∙ take-suc c.args.vars.now c.each.var-index none c.each-test.true in
    record {
      new =
          subst
          (λ (vs : List TyVar). AreNewVars c.args.next.now vs c.fresh_var.new.types c.push.new.self.items)
          (sym taken)
          (subst (λ (gs : List Given). AreNewVars c.args.next.now (take c.each.var-index c.args.vars.now ++ var ∷ []) c.fresh_var.new.types gs) (sym c.in_ok-push.ensures.items) new);
      below = c.in_ok-ty.ensures.below;
      raised = (let a = c.each.invariant.raised in let b = c.in_ok-ty.ensures.raised in omega arith);
      longer = longer_then c.args.types.now c.each.types c.fresh_var.new.types c.each.invariant.longer c.in_ok-ty.ensures.longer;
    }
