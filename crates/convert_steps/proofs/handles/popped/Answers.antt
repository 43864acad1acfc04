use Rattle.std.proofs.Common.{◌∷◌, ◌++◌, [], ap, ◌∙◌}
use Rattle.convert_laws.specs.Convert.{variable}
use Rattle.convert_steps.proofs.Handled.{popped_written}
use Rattle.convert_steps.proofs.handles.popped.Goals as goal

pub returns : goal.returns
returns c =
    λ own terms w.
    popped_written own terms w c.args.binds.now _ c.args.scope c.args.next c.in_ok-value.value c.atom_by.result _ c.args.continuation c.in_ok-value.ensures c.atom_by.ensures
    (c.in_ok-push-2.ensures.ok ∙ ap (λ xs. xs ++ variable c.in_ok-value.value ∷ []) c.new-atoms.ensures)
    c.in_ok-push.ensures.ok
