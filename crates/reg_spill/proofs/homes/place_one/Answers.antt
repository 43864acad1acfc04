use Rattle.std.proofs.Common.{◌≡◌, ◌∙◌, Some, None, cond, map, ap, subst}
use Rattle.std.specs.Prelude.{slice_set}
use Rattle.place_laws.specs.Live.{is_in, without}
use Rattle.place_laws.specs.Place.{home_of, place_beside}
use Rattle.closed_live.specs.Same.{AreSame}
use Rattle.place_bodies.specs.Steps.{at_of}
use Rattle.reg_spill.proofs.Taken.{least_beside}
use Rattle.reg_spill.proofs.homes.place_one.Goals as goal

pub returns-clause-table : goal.returns-clause-table
returns-clause-table c =
    ap (slice_set c.args.table.now.items c.args.variable)
    (least_beside (at_of c.args.table.now.items) c.args.variable c.args.alive.now c.in_ok-taken.taken.keys c.in_ok-place.place
    (subst (λ t. AreSame c.in_ok-taken.taken.keys (map (at_of t) (without c.args.variable c.args.alive.now))) c.as_slice.ensures.value c.in_ok-taken.ensures) c.in_ok-place.ensures)

pub returns-clause-home : goal.returns-clause-home
returns-clause-home c =
    let e : c.in_ok-place.place ≡ place_beside (at_of c.args.table.now.items) (without c.args.variable c.args.alive.now) =
    least_beside (at_of c.args.table.now.items) c.args.variable c.args.alive.now c.in_ok-taken.taken.keys c.in_ok-place.place
    (subst (λ t. AreSame c.in_ok-taken.taken.keys (map (at_of t) (without c.args.variable c.args.alive.now))) c.as_slice.ensures.value c.in_ok-taken.ensures) c.in_ok-place.ensures in
    c.home_if.ensures ∙ ap (λ p. cond (is_in c.args.variable c.args.alive.now) (Some (home_of p)) None) e
