use Rattle.std.proofs.Common.{◌++◌, sym, ap, ◌∙◌, append-nil}
use Rattle.std.specs.Prelude.{slice_get}
use Rattle.std.proofs.lemmas.Option.{slice_get_past}
use Rattle.label_plans.specs.Rows.{row_at_number}
use Rattle.label_plans.proofs.Planned.{no_layout}
use Rattle.label_plans.proofs.rows.push_row.Goals as goal

pub returns-in-None : goal.returns-in-None
returns-in-None c labels r =
    sym (append-nil c.args.found.now.items) ∙ ap (λ o. c.args.found.now.items ++ row_at_number labels c.args.sites.now c.args.classes.now o (slice_get c.args.layouts.now c.args.i)) (sym (slice_get_past c.args.all.now c.args.i c.in-None.ensures.lookup.3))

pub returns-in-None-get : goal.returns-in-None-get
returns-in-None-get c labels r =
    sym (append-nil c.args.found.now.items) ∙ ap (λ rs. c.args.found.now.items ++ rs) (sym (no_layout labels c.args.sites.now c.args.classes.now (slice_get c.args.all.now c.args.i)))
    ∙ ap (λ o. c.args.found.now.items ++ row_at_number labels c.args.sites.now c.args.classes.now (slice_get c.args.all.now c.args.i) o) (sym (slice_get_past c.args.layouts.now c.args.i c.in-None-get.ensures.lookup.3))
