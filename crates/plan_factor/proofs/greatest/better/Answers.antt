use Rattle.std.proofs.Common.{rules, ◌≡◌, ◌<◌, length, Some, sym, ap, ◌∙◌}
use Rattle.std.specs.Prelude.{slice_get, slice_index_or}
use Rattle.std.proofs.lemmas.Option.{slice_get_past, slice_get-get_or}
use Rattle.plan_factor.specs.Groups.{grouped, best_with}
use Rattle.plan_factor.proofs.Best.{better_is}
use Rattle.plan_factor.proofs.greatest.better.Goals as goal

pub returns-in_ok-here-in-Some : goal.returns-in_ok-here-in-Some
returns-in_ok-here-in-Some c labels r =
    let within : c.args.i < length c.args.all.now = search rules in
    let value : c.in-Some.function.now ≡ slice_index_or c.args.all.now c.args.i c.in-Some.function.now = search rules in
    let at : slice_get c.args.all.now c.args.i ≡ Some c.in-Some.function.now = slice_get-get_or c.args.all.now c.args.i c.in-Some.function.now within ∙ ap Some (sym value) in
    better_is labels c.args.sites.now c.args.classes.now c.args.layouts.now (grouped c.args.groups.now) c.in-Some.function.now (slice_get c.args.all.now c.args.i) c.point-point.result c.in_ok-here-in-Some.here c.args.best c.greater.result at c.point-point.ensures (c.in_ok-here-in-Some.ensures labels r) c.greater.ensures

pub returns-in-None : goal.returns-in-None
returns-in-None c labels r =
    ap (λ o. best_with labels c.args.sites.now c.args.classes.now c.args.layouts.now (grouped c.args.groups.now) o c.args.best) (sym (slice_get_past c.args.all.now c.args.i c.in-None.ensures.lookup.3))
