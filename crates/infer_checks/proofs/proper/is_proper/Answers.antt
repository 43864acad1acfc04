use Rattle.std.proofs.Common.{rules, ◌≡◌, IsTrue, [], List, ℕ, nat_eq, map, ap, ◌∙◌, subst}
use Rattle.std.specs.List.{AllByRecursion, find}
use Rattle.sml_types.specs.declared.types.TyVar.{TyVar}
use Rattle.sml_types.specs.Schemes.{scheme_poly}
use Rattle.sml_unify.specs.Resolve.{renamed_as, led_to}
use Rattle.infer_state.specs.Typings.{AreApart}
use Rattle.infer_checks.specs.Checked.{ending}
use Rattle.infer_checks.specs.Ending.{IsKept}
use Rattle.infer_checks.proofs.Free.{plain_proper}
use Rattle.infer_checks.proofs.KeptFacts.{proper_kept}
use Rattle.infer_checks.proofs.proper.is_proper.Goals as goal

pub returns-then-is_empty : goal.returns-then-is_empty
returns-then-is_empty c _ =
    let none : c.args.settled.now.scheme.vars ≡ [] = c.is_empty.ensures.0 (search rules) in
    plain_proper (ending c.args.unknowns.now c.args.renames.now) (scheme_poly c.args.unknowns.now.types c.args.settled.now.scheme) none

pub returns : goal.returns
returns c ok =
    let f = ending c.args.unknowns.now c.args.renames.now in
    let rs = c.args.renames.now in
    let vars : List TyVar = c.args.settled.now.scheme.vars in
    let left : List ℕ = c.in_ok-left.left.items in
    let is : IsTrue c.are_kept.result = search rules in
    let kept = subst (λ (ns : List ℕ). AllByRecursion (IsKept f rs ns) vars) c.deref.ensures.value (subst (λ (vs : List TyVar). AllByRecursion (IsKept f rs c.deref.result.now) vs) c.items-vars.ensures (c.are_kept.ensures is)) in
    let numbers = c.in_ok-numbers.ensures ∙ ap (λ (vs : List TyVar). map (λ v. (renamed_as v (led_to (find (λ r. nat_eq r.from v.num) rs))).num) vs) c.items-vars.ensures in
    proper_kept f rs left (scheme_poly c.args.unknowns.now.types c.args.settled.now.scheme) c.in_ok-numbers.numbers.items c.in_ok-left.ensures kept numbers (subst AreApart c.deref-2.ensures.value (c.are_apart.ensures ok))
