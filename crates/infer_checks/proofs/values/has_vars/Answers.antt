use Rattle.std.proofs.Common.{rules, ◌≡◌, Some, sym, ◌∙◌}
use Rattle.std.specs.Prelude.{slice_get}
use Rattle.infer_state.specs.Fits.{joined_settled}
use Rattle.infer_checks.proofs.ValueFacts.{vars_at}
use Rattle.infer_checks.proofs.values.has_vars.Goals as goal

pub returns-in-Some : goal.returns-in-Some
returns-in-Some c forms ok =
    let e : joined_settled (slice_get c.args.settled.now c.args.name) ≡ Some c.in-Some.found.now = search rules in
    vars_at forms (joined_settled (slice_get c.args.settled.now c.args.name)) c.in-Some.found.now c.args.vars.now e (sym c.items.ensures ∙ c.are_same.ensures ok)
