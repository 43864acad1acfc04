use Rattle.std.proofs.Common.{◌++◌, reverse, sym, ap, ◌∙◌, append-nil}
use Rattle.std.proofs.lemmas.Option.{slice_get_past}
use Rattle.sml_tree.specs.Sets.{row_at}
use Rattle.cps_survey.specs.Steps.{tasks_at}
use Rattle.cps_survey.proofs.walk.open_body.Goals as goal

pub returns-in-None : goal.returns-in-None
returns-in-None c =
    sym (append-nil c.args.work.now.items) ∙ ap (λ o. c.args.work.now.items ++ reverse (tasks_at (row_at c.args.frees.now) c.args.home o)) (sym (slice_get_past c.args.bodies.now c.args.body c.in-None.ensures.lookup.3))
