use Rattle.std.proofs.Common.{rules, ◌≡◌, true, false, List, ℕ, ◌∙◌, subst}
use Rattle.std.specs.List.{AllByRecursion}
use Rattle.infer_state.specs.Fits.{settled_at}
use Rattle.infer_state.specs.Names.{names_bound}
use Rattle.infer_closing.specs.Closing.{meaning}
use Rattle.infer_checks.specs.Checked.{ending}
use Rattle.infer_checks.specs.Ending.{Decides, IsNameKnown, IsKnownIfNamed}
use Rattle.infer_checks.specs.Node.{AreLeftOut, MayBeAllLeftOut}
use Rattle.infer_checks.proofs.ValueFacts.{declared_of}
use Rattle.infer_checks.proofs.values.is_declared_well.Goals as goal

pub returns-then-not-branch : goal.returns-then-not-branch
returns-then-not-branch c around q may =
    let p = c.args.bare.now in
    let m = meaning c.args.unknowns.now in
    let fails : c.in_ok-are_known.field-0 ≡ false = search rules in
    let found = subst (λ (xs : List ℕ). Decides (AllByRecursion (IsNameKnown p m around) xs) (AllByRecursion (IsKnownIfNamed p m around) xs) c.in_ok-are_known.field-0) (c.deref.ensures.value ∙ c.in_ok-names.ensures) (c.in_ok-are_known.ensures around q) in
    subst (Decides _ _) fails found may.mentioned

pub returns-then-not-branch-2 : goal.returns-then-not-branch-2
returns-then-not-branch-2 c around q may =
    let fails : c.in_ok-are_explicit_new.field-0 ≡ false = search rules in
    subst (Decides _ _) fails (c.in_ok-are_explicit_new.ensures around q) may.fresh

pub returns : goal.returns
returns c around q =
    let p = c.args.bare.now in
    let u = c.args.unknowns.now in
    let m = meaning u in
    let f = ending u c.args.renames.now in
    let known = settled_at u.types c.args.settled.now in
    let us : List ℕ = c.args.tyvars.now in
    let names : List ℕ = names_bound p.nodes c.args.node in
    let holds : c.in_ok-are_known.field-0 ≡ true = search rules in
    let holds_too : c.in_ok-are_explicit_new.field-0 ≡ true = search rules in
    let found = subst (λ (xs : List ℕ). Decides (AllByRecursion (IsNameKnown p m around) xs) (AllByRecursion (IsKnownIfNamed p m around) xs) c.in_ok-are_known.field-0) (c.deref.ensures.value ∙ c.in_ok-names.ensures) (c.in_ok-are_known.ensures around q) in
    declared_of p known m f around us names c.in_ok-out.out
    (subst (Decides _ _) holds found)
    (subst (Decides _ _) holds_too (c.in_ok-are_explicit_new.ensures around q))
    (subst (λ (xs : List ℕ). Decides (AreLeftOut known f us xs) (MayBeAllLeftOut p known f us xs) c.in_ok-out.out) (c.deref-2.ensures.value ∙ c.in_ok-names.ensures) c.in_ok-out.ensures)
