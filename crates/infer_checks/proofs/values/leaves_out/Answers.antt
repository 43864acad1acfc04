use Rattle.std.proofs.Common.{rules, ◌≡◌, ◌<◌, [], List, ℕ, Some, length, ap, subst}
use Rattle.std.specs.Prelude.{slice_get}
use Rattle.std.specs.List.{AllByRecursion}
use Rattle.sml_types.specs.Schemes.{scheme_poly}
use Rattle.infer_state.specs.Fits.{joined_settled, settled_at, settled_poly}
use Rattle.infer_checks.specs.Checked.{ending}
use Rattle.infer_checks.specs.Ending.{Decides, IsOutside}
use Rattle.infer_checks.proofs.ValueFacts.{left_out_of}
use Rattle.infer_checks.proofs.values.leaves_out.Goals as goal

pub open_numbers-requires-clause-there : goal.open_numbers-requires-clause-there
open_numbers-requires-clause-there c =
    let e : joined_settled (slice_get c.args.settled.now c.args.name) ≡ Some c.in-Some.found.now = search rules in
    (c.requires.there c.args.name c.in-Some.found.now e).there

pub returns-in_ok-outside-in-Some : goal.returns-in_ok-outside-in-Some
returns-in_ok-outside-in-Some c =
    let p = c.args.bare.now in
    let u = c.args.unknowns.now in
    let us : List ℕ = c.args.tyvars.now in
    let b = c.in_ok-outside-in-Some.outside in
    let e : joined_settled (slice_get c.args.settled.now c.args.name) ≡ Some c.in-Some.found.now = search rules in
    left_out_of p (settled_at u.types c.args.settled.now) (ending u c.args.renames.now) c.args.name (scheme_poly u.types c.in-Some.found.now.scheme) c.in_ok-numbers-in-Some.numbers.items us b (ap (settled_poly u.types) e) c.in_ok-numbers-in-Some.ensures
    (subst (λ (os : List ℕ). Decides (AllByRecursion (IsOutside os []) us) (AllByRecursion (λ v. v < length p.tyvars → IsOutside os [] v) us) b) c.deref.ensures.value c.in_ok-outside-in-Some.ensures)
