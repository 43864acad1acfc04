use Rattle.std.proofs.Common.{rules, ◌≡◌, [], sym, ap, ◌∙◌}
use Rattle.type_text.specs.Tasks.{tasks_text}
use Rattle.type_text.specs.States.{with_items}
use Rattle.type_text.proofs.Walks.{with_none}
use Rattle.type_text.proofs.show.show.Goals as goal

pub returns : goal.returns
returns c =
    let empty : c.pieces.work ≡ [] = search rules in
    sym (with_none c.pieces.written) ∙ ap (λ ts. with_items c.pieces.written (tasks_text c.args.forms.now c.args.type_names.now ts)) (sym empty) ∙ c.pieces.invariant
