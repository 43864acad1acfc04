use Rattle.std.proofs.Common.{rules, [], List, ℕ, IsTrue, ◌∙◌, subst}
use Rattle.std.specs.List.{AllByRecursion}
use Rattle.infer_state.specs.Fits.{settled_at}
use Rattle.infer_closing.specs.Closing.{meaning}
use Rattle.infer_checks.specs.Ending.{Decides, HasVars, IsNameKnown, IsKnownIfNamed}
use Rattle.infer_checks.proofs.NodeFacts.{matched_of}
use Rattle.infer_checks.proofs.matched.is_matched.Goals as goal

pub returns : goal.returns
returns c around q =
    let p = c.args.bare.now in
    let forms = c.args.unknowns.now.types in
    let m = meaning c.args.unknowns.now in
    let plain : IsTrue c.are_plain.result = search rules in
    let b = c.in_ok-known.known in
    matched_of p (settled_at forms c.args.settled.now) m around _ b
    (subst (λ (xs : List ℕ). AllByRecursion (λ x. HasVars [] (settled_at forms c.args.settled.now x)) xs) (c.deref.ensures.value ∙ c.in_ok-names.ensures) (c.are_plain.ensures plain forms))
    (subst (λ (xs : List ℕ). Decides (AllByRecursion (IsNameKnown p m around) xs) (AllByRecursion (IsKnownIfNamed p m around) xs) b) (c.deref-2.ensures.value ∙ c.in_ok-names.ensures) (c.in_ok-known.ensures around q))
