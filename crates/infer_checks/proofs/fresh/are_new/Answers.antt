use Rattle.std.proofs.Common.{rules, List, ℕ, IsTrue, subst}
use Rattle.std.specs.List.{AllByRecursion}
use Rattle.infer_state.specs.Fits.{settled_at}
use Rattle.infer_checks.specs.Checked.{ending}
use Rattle.infer_checks.specs.Ending.{IsKept}
use Rattle.infer_checks.proofs.AroundFacts.{new_all}
use Rattle.infer_checks.proofs.fresh.are_new.Goals as goal

pub returns : goal.returns
returns c ok around q =
    let f = ending c.args.unknowns.now c.args.renames.now in
    let rs = c.args.renames.now in
    let known = settled_at c.args.unknowns.now.types c.args.settled.now in
    let kept : IsTrue c.are_kept.result = search rules in
    new_all c.args.bare.now known f around rs c.in_ok-numbers.numbers.items c.in_ok-tyvars.tyvars.items c.args.vars.now (c.in_ok-tyvars.ensures around q) (c.in_ok-numbers.ensures around q)
    (subst (λ (ns : List ℕ). AllByRecursion (IsKept f rs ns) c.args.vars.now) c.deref.ensures.value (c.are_kept.ensures kept))
    (subst (λ (ns : List ℕ). AllByRecursion (IsKept f rs ns) c.args.vars.now) c.deref-2.ensures.value (c.are_kept-2.ensures ok))
