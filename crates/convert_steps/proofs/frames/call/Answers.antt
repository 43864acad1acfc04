use Rattle.std.proofs.Common.{◌∷◌, ◌++◌, [], ap, ◌∙◌}
use Rattle.convert_steps.proofs.Resumed.{called_written}
use Rattle.convert_steps.proofs.frames.call.Goals as goal

pub returns : goal.returns
returns c =
    λ own terms w bs.
    called_written own terms w bs c.args.function c.args.argument c.atom_by.result _ c.args.scope c.args.next c.args.continuation c.atom_by.ensures
    (c.in_ok-push-2.ensures.ok ∙ ap (λ xs. xs ++ c.atom_by.result ∷ []) (c.in_ok-push.ensures.ok ∙ ap (λ xs. xs ++ c.args.argument ∷ []) c.new-atoms.ensures))
