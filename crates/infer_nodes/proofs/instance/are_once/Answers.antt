use Rattle.std.proofs.Common.{rules, ◌≡◌, ◌<◌, ◌+◌, ◌-◌, length, false, drop, subst, sym, ap, ◌∙◌, arith, get_or}
use Rattle.sml_types.specs.declared.types.TyVar.{TyVar}
use Rattle.sml_types.specs.Poly.{has_num}
use Rattle.sml_unify.specs.Variables.{AreOnce}
use Rattle.infer_nodes.proofs.Schemes.{once_more}
use Rattle.infer_nodes.proofs.instance.are_once.Goals as goal

pub vars-preserved : goal.vars-preserved
vars-preserved c =
    let within = c.vars.invariant.within in
    let one = c.vars-test.true in
    let d : TyVar = record { num = 0; eq = false } in
    let back : c.vars.at - 1 + 1 ≡ c.vars.at = omega arith in
    record {
      within = omega arith;
      once = once_more c.args.vars.now (c.vars.at - 1) d (omega arith) (subst (λ k. AreOnce (drop k c.args.vars.now)) (sym back) c.vars.invariant.once) (sym c.has_num.ensures ∙ c.if-has_num.false);
    }
