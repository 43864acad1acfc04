use Rattle.std.proofs.Common.{◌∷◌, ◌++◌, [], ap, ◌∙◌}
use Rattle.convert_steps.proofs.Resumed.{known_called}
use Rattle.convert_steps.proofs.frames.call_known.Goals as goal

pub returns : goal.returns
returns c =
    λ own terms w bs.
    known_called own terms w bs c.args.function c.args.value _ c.args.scope c.args.next (c.in_ok-push.ensures.ok ∙ ap (λ xs. xs ++ c.args.value ∷ []) c.new-atoms.ensures)
