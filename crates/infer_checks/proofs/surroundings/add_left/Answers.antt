use Rattle.std.proofs.Common.{rules, ◌≡◌, Some, ap}
use Rattle.std.specs.Prelude.{slice_get}
use Rattle.sml_types.specs.Schemes.{scheme_poly}
use Rattle.infer_state.specs.Fits.{joined_settled, settled_at, settled_poly}
use Rattle.infer_checks.specs.Checked.{ending}
use Rattle.infer_checks.proofs.AroundFacts.{open_lists}
use Rattle.infer_checks.proofs.surroundings.add_left.Goals as goal

pub returns-in_ok-append-in-Some-clause-lists : goal.returns-in_ok-append-in-Some-clause-lists
returns-in_ok-append-in-Some-clause-lists c =
    let forms = c.args.unknowns.now.types in
    let e : joined_settled (slice_get c.args.settled.now c.args.name) ≡ Some c.in-Some.found.now = search rules in (
      c.in_ok-more-in-Some.more.items,
      search rules,
      open_lists (settled_at forms c.args.settled.now) (ending c.args.unknowns.now c.args.renames.now) c.args.name (scheme_poly forms c.in-Some.found.now.scheme) c.in_ok-more-in-Some.more.items (ap (settled_poly forms) e) c.in_ok-more-in-Some.ensures,
    )

pub returns-in_ok-append-in-Some-clause-settled : goal.returns-in_ok-append-in-Some-clause-settled
returns-in_ok-append-in-Some-clause-settled c around q out =
    let forms = c.args.unknowns.now.types in
    let e : joined_settled (slice_get c.args.settled.now c.args.name) ≡ Some c.in-Some.found.now = search rules in
    (scheme_poly forms c.in-Some.found.now.scheme, ap (settled_poly forms) e)
