use Rattle.std.proofs.Common.{rules, ◌≡◌, ◌<◌, ◌++◌, true, List, ℕ, length, IsTrue, sym, subst}
use Rattle.std.specs.List.{AllByRecursion}
use Rattle.sml_types.specs.Poly.{is_in}
use Rattle.infer_state.specs.Fits.{settled_at}
use Rattle.infer_closing.specs.Open.{closed_at}
use Rattle.infer_checks.specs.Checked.{ending}
use Rattle.infer_checks.specs.Ending.{Lists, IsOpenTypeAmong, IsOpenNameAmong, IsSettledOrOwn, AreOpenAround}
use Rattle.infer_checks.proofs.AroundFacts.{around_of}
use Rattle.infer_checks.proofs.surroundings.around.Goals as goal

pub returns : goal.returns
returns c around q =
    let p = c.args.bare.now in
    let f = ending c.args.unknowns.now c.args.renames.now in
    let known = settled_at c.args.unknowns.now.types c.args.settled.now in
    let xs : List ℕ = c.in_ok-numbers.numbers.items in
    let ys : List ℕ = c.in_ok-left.left.items in
    let found : IsTrue c.are_bound.result = search rules in
    let whole : c.append.new.self.items ≡ xs ++ ys = search rules in
    subst
    (AreOpenAround p known f around)
    (sym whole)
    (around_of p known f around c.in_ok-own.own.items c.in_ok-names.names.items xs ys (c.in_ok-own.ensures around q)
    (subst (λ (ns : List ℕ). AllByRecursion (λ x. is_in around.names x ≡ true) ns) c.deref.ensures.value (c.are_bound.ensures found around q))
    (subst (λ (ns : List ℕ). AllByRecursion (λ x. x < length p.names) ns) c.deref-2.ensures.value c.in_ok-numbers.ensures.few)
    (subst (λ (ns : List ℕ). Lists (IsOpenTypeAmong p f ns) xs) c.deref-2.ensures.value c.in_ok-numbers.ensures.lists)
    (c.in_ok-names.ensures.all (closed_at known) c.requires.closed around q)
    (c.in_ok-names.ensures.bound around q)
    (subst (λ (ns : List ℕ). AllByRecursion (IsSettledOrOwn known around) ns) c.deref-3.ensures.value (c.in_ok-left.ensures.settled around q))
    (subst (λ (ns : List ℕ). Lists (IsOpenNameAmong known f ns) ys) c.deref-3.ensures.value c.in_ok-left.ensures.lists))
