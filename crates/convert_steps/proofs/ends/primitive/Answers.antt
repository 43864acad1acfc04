use Rattle.std.proofs.Common.{sym, ap, ◌∙◌}
use Rattle.std.proofs.lemmas.Result.{IfOk-weaker}
use Rattle.convert_steps.specs.Ends.{comparison}
use Rattle.convert_steps.proofs.Ended.{primitive_plain, primitive_compared}
use Rattle.convert_steps.proofs.ends.primitive.Goals as goal

pub returns-in-Some : goal.returns-in-Some
returns-in-Some c =
    λ own terms w. primitive_compared own terms w c.args.binds.now c.args.operation c.args.atoms c.args.scope c.args.next c.args.continuation c.in-Some.field-0 c.atom_by.result (ap (comparison c.args.operation) (sym c.items.ensures) ∙ sym c.comparison.ensures ∙ c.in-Some.is) c.atom_by.ensures

pub returns-in-None : goal.returns-in-None
returns-in-None c =
    IfOk-weaker c.plain.result _ _
    (λ s h own terms w. primitive_plain own terms w c.args.binds.now c.plain.new.binds c.args.operation c.args.atoms c.args.scope c.args.next c.args.continuation s (ap (comparison c.args.operation) (sym c.items.ensures) ∙ sym c.comparison.ensures ∙ c.in-None.is) (h own terms w))
    c.plain.ensures
