use Rattle.std.proofs.Common.{◌≡◌, suc, ℕ, ◌+◌, ◌<◌, ◌∷◌, [], ◌++◌, length, List, take, sym, ap, ◌∙◌, subst, arith}
use Rattle.std.specs.Prelude.{get_or}
use Rattle.std.specs.List.{AllByRecursion}
use Rattle.std.proofs.Math.Seq.{take-suc}
use Rattle.infer_closing.proofs.VarFacts.{all_end}
use Rattle.infer_closing.proofs.LeftFacts.{explicit_more}
use Rattle.infer_closing.proofs.left.explicit_vars.Goals as goal

pub tyvars-preserved : goal.tyvars-preserved
tyvars-preserved c =
    let us = c.args.tyvars.now in
    let i = c.tyvars.number-index in
    let u : ℕ = get_or us i 0 in
    let marks = c.args.bare.now.tyvars in
    let next : i + 1 ≡ suc i = omega arith in
    let taken : take (i + 1) us ≡ take i us ++ u ∷ [] = ap (λ k. take k us) next ∙ take-suc us i 0 c.tyvars-test.true in
    record {
      is = explicit_more marks (take i us) (take (i + 1) us) u c.tyvars.vars c.push.new.self c.in_ok-var.var taken c.tyvars.invariant.is c.in_ok-var.ensures.1 c.in_ok-push.ensures.ok;
      there = subst (λ (xs : List ℕ). AllByRecursion (λ x. x < length marks) xs) (sym taken) (all_end (λ x. x < length marks) (take i us) u c.tyvars.invariant.there c.in_ok-var.ensures.0);
    }
