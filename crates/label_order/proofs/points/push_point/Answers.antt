use Rattle.std.proofs.Common.{◌++◌, sym, ap, ◌∙◌, append-nil}
use Rattle.std.proofs.lemmas.Option.{slice_get_past}
use Rattle.label_order.specs.Order.{points_in, at_number}
use Rattle.label_order.proofs.points.push_point.Goals as goal

pub returns-in-None : goal.returns-in-None
returns-in-None c =
    sym (append-nil c.args.points.now.items) ∙ ap (λ o. c.args.points.now.items ++ points_in (at_number o)) (sym (slice_get_past c.args.all.now c.args.i c.in-None.ensures.lookup.3))
