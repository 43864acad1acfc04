use Rattle.std.proofs.Common.{Some, sym, ap, ◌∙◌, subst}
use Rattle.std.proofs.lemmas.Option.{slice_get-get_or, slice_get_past}
use Rattle.infer_state.specs.Fits.{settled_at}
use Rattle.infer_checks.specs.Bound.{HaveSchemesAt}
use Rattle.infer_checks.proofs.bound.are_settled_at.Goals as goal

pub returns-in-Some : goal.returns-in-Some
returns-in-Some c all forms =
    let found = c.in-Some.node.now in
    let there = slice_get-get_or c.args.nodes.now c.args.at found c.in-Some.ensures.lookup.3.0 ∙ ap Some (sym c.in-Some.ensures.lookup.1) in
    subst (HaveSchemesAt (settled_at forms c.args.settled.now)) (sym there) (c.are_own_settled.ensures all forms)

pub returns-in-None : goal.returns-in-None
returns-in-None c _ forms =
    subst (HaveSchemesAt (settled_at forms c.args.settled.now)) (sym (slice_get_past c.args.nodes.now c.args.at c.in-None.ensures.lookup.3)) tt
