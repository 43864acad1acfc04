use Rattle.std.proofs.Common.{ap, ◌∙◌, ◌∷◌, ◌++◌, []}
use Rattle.convert_laws.specs.Convert.{variable}
use Rattle.convert_pieces.proofs.Ways.{new_stepped}
use Rattle.convert_pieces.proofs.picks.new_step.Goals as goal

pub returns-clause-code : goal.returns-clause-code
returns-clause-code c =
    new_stepped _ _ c.args.way.now _ c.args.at c.args.field c.args.atom c.args.next _ c.requires.within c.requires.new c.in_ok-push.ensures.ok (c.in_ok-push-2.ensures.ok ∙ ap (λ w. w ++ (c.args.field, variable c.args.next) ∷ []) c.truncate.ensures) c.in_ok-later.ensures
