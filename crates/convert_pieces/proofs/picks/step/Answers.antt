use Rattle.std.proofs.Common.{sym, ap, ◌∙◌, drop}
use Rattle.convert_pieces.specs.Ways.{stands_in}
use Rattle.convert_pieces.proofs.Emits.{emitted_same}
use Rattle.convert_pieces.proofs.Ways.{old_stepped}
use Rattle.convert_pieces.proofs.picks.step.Goals as goal

pub returns-in-Some-clause-code : goal.returns-in-Some-clause-code
returns-in-Some-clause-code c =
    λ path rest.
    emitted_same _ _ _ (old_stepped c.args.way.now c.args.at c.args.field c.args.from.atom c.in-Some.atom c.args.from.next (ap (λ w. stands_in (drop c.args.at w) c.args.field) (sym c.items.ensures) ∙ sym c.stands_in.ensures ∙ c.in-Some.is) path rest)
