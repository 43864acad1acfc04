use Rattle.std.proofs.Common.{rules, ◌≡◌, ◌<◌, ◌++◌, ◌∷◌, [], nat_eq, length, true, false, List, arith, sym, ap, subst, length-append}
use Rattle.std.specs.List.{list_any}
use Rattle.sml_unify.specs.declared.resolve.Rename.{Rename}
use Rattle.infer_closing.specs.Closing.{meaning}
use Rattle.infer_checks.specs.Ending.{IsFoundAt, IsFound, AreFound}
use Rattle.infer_checks.proofs.FoundFacts.{not_taken, found_more}
use Rattle.infer_checks.proofs.explicit.renames.Goals as goal

pub returns-then-is_taken : goal.returns-then-is_taken
returns-then-is_taken c =
    let p = c.args.bare.now in
    let m = meaning c.args.unknowns.now in
    let here : IsFound p m c.tyvars.tyvar c.in-Some.rename = subst (IsFoundAt p m c.tyvars.tyvar) c.in-Some.is c.in_ok-rename.ensures in
    let few : length c.tyvars.renames < length p.tyvars = search rules in
    let taken : list_any (λ (r : Rename). nat_eq r.from c.in-Some.rename.from) c.tyvars.renames ≡ true = search rules in
    not_taken p m c.tyvars.renames c.in-Some.rename c.tyvars.invariant.found few (subst (λ u. IsFound p m u c.in-Some.rename) (sym c.tyvars.invariant.count) here) taken

pub tyvars-preserved : goal.tyvars-preserved
tyvars-preserved c =
    let p = c.args.bare.now in
    let m = meaning c.args.unknowns.now in
    let here : IsFound p m c.tyvars.tyvar c.in-Some.rename = subst (IsFoundAt p m c.tyvars.tyvar) c.in-Some.is c.in_ok-rename.ensures in
    let out : list_any (λ (r : Rename). nat_eq r.from c.in-Some.rename.from) c.tyvars.renames ≡ false = search rules in
    let is : c.push.new.self ≡ c.tyvars.renames ++ c.in-Some.rename ∷ [] = search rules in
    let longer = length-append c.tyvars.renames (c.in-Some.rename ∷ []) in
    let whole = ap (λ (rs : List Rename). length rs) is in
    let count = c.tyvars.invariant.count in
    record {
      found = subst (AreFound p m) (sym is) (found_more p m c.tyvars.renames c.in-Some.rename c.tyvars.invariant.found (subst (λ u. IsFound p m u c.in-Some.rename) (sym c.tyvars.invariant.count) here) out);
      count = omega arith;
    }
