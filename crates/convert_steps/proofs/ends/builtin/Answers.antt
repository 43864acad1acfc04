use Rattle.std.proofs.Common.{sym, ◌∙◌}
use Rattle.std.proofs.lemmas.Result.{IfOk-weaker}
use Rattle.convert_steps.proofs.Ended.{builtin_one, builtin_several}
use Rattle.convert_steps.proofs.ends.builtin.Goals as goal

pub returns-then-takes_one : goal.returns-then-takes_one
returns-then-takes_one c =
    IfOk-weaker c.primitive.result _ _
    (λ s h own terms w. builtin_one own terms w c.args.binds.now c.primitive.new.binds c.args.operation c.args.value c.in_ok-atoms.atoms c.args.scope c.args.next c.args.continuation s (sym c.takes_one.ensures ∙ c.if-takes_one.true) c.in_ok-atoms.ensures (h own terms w))
    c.primitive.ensures

pub returns : goal.returns
returns c =
    IfOk-weaker c.primitive-2.result _ _
    (λ s h own terms w. builtin_several own terms w c.args.binds.now c.pick_fields.new.binds c.primitive-2.new.binds c.args.operation c.args.value c.in_ok-fields.fields.atoms c.args.scope c.fields_taken.result c.args.next c.in_ok-fields.fields.next c.args.continuation s (sym c.takes_one.ensures ∙ c.if-takes_one.false) c.fields_taken.ensures c.in_ok-fields.ensures (h own terms w))
    c.primitive-2.ensures
