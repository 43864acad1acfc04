use Rattle.std.proofs.Common.{rules, ◌≡◌, Some, None}
use Rattle.std.specs.Prelude.{slice_get}
use Rattle.infer_state.specs.Fits.{joined_settled}
use Rattle.infer_checks.specs.Checked.{ending}
use Rattle.infer_checks.proofs.KeptFacts.{at_found, at_none}
use Rattle.infer_checks.proofs.proper.is_proper_at.Goals as goal

pub is_proper-requires-clause-there : goal.is_proper-requires-clause-there
is_proper-requires-clause-there c =
    let e : joined_settled (slice_get c.args.settled.now c.args.name) ≡ Some c.in-Some.found.now = search rules in
    (c.requires.there c.args.name c.in-Some.found.now e).there

pub returns-in_ok-proper-in-Some : goal.returns-in_ok-proper-in-Some
returns-in_ok-proper-in-Some c ok =
    let e : joined_settled (slice_get c.args.settled.now c.args.name) ≡ Some c.in-Some.found.now = search rules in
    at_found (ending c.args.unknowns.now c.args.renames.now) c.args.unknowns.now.types (joined_settled (slice_get c.args.settled.now c.args.name)) c.in-Some.found.now e (c.in_ok-proper-in-Some.ensures ok)

pub returns-in-None : goal.returns-in-None
returns-in-None c _ =
    let e : joined_settled (slice_get c.args.settled.now c.args.name) ≡ None = c.settled_name.ensures.none c.in-None.is in
    at_none (ending c.args.unknowns.now c.args.renames.now) c.args.unknowns.now.types (joined_settled (slice_get c.args.settled.now c.args.name)) e
