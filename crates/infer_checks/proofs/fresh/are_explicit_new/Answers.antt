use Rattle.std.proofs.Common.{◌<◌, List, ℕ, length, subst}
use Rattle.std.specs.List.{AllByRecursion}
use Rattle.infer_state.specs.Fits.{settled_at}
use Rattle.infer_checks.specs.Checked.{ending}
use Rattle.infer_checks.specs.Ending.{Decides, IsOutside}
use Rattle.infer_checks.proofs.AroundFacts.{outside_new}
use Rattle.infer_checks.proofs.fresh.are_explicit_new.Goals as goal

pub returns : goal.returns
returns c around q =
    let p = c.args.bare.now in
    let f = ending c.args.unknowns.now c.args.renames.now in
    let known = settled_at c.args.unknowns.now.types c.args.settled.now in
    let us : List ℕ = c.args.tyvars.now in
    let b = c.in_ok-outside.outside in
    outside_new p known f around c.in_ok-numbers.numbers.items c.in_ok-others.others.items us (c.in_ok-others.ensures around q) (c.in_ok-numbers.ensures around q) b
    (subst (λ (os : List ℕ). Decides (AllByRecursion (IsOutside os c.in_ok-others.others.items) us) (AllByRecursion (λ u. u < length p.tyvars → IsOutside os c.in_ok-others.others.items u) us) b) c.deref.ensures.value
    (subst (λ (ts : List ℕ). Decides (AllByRecursion (IsOutside c.deref.result.now ts) us) (AllByRecursion (λ u. u < length p.tyvars → IsOutside c.deref.result.now ts u) us) b) c.deref-2.ensures.value c.in_ok-outside.ensures))
