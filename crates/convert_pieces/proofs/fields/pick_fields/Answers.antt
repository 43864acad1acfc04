use Rattle.std.proofs.Common.{suc, arith}
use Rattle.convert_pieces.proofs.Emits.{emitted_then, emitted_to}
use Rattle.convert_pieces.proofs.Ways.{field_one, fields_ended}
use Rattle.convert_pieces.proofs.fields.pick_fields.Goals as goal

pub loop-field-preserved : goal.loop-field-preserved
loop-field-preserved c =
    λ k e rest.
    emitted_then _ _ _ _ _ _ (c.loop-field.invariant (suc k) (omega (arith, e)) rest)
    (field_one _ _ k c.loop-field.field _ c.args.subject c.loop-field.atoms _ rest c.loop-field.later _ c.in_ok-push.ensures.ok c.in_ok-push-2.ensures.ok c.in_ok-later.ensures (omega arith))

pub returns : goal.returns
returns c = λ rest. emitted_to _ _ _ _ _ (fields_ended 0 c.loop-field.field c.args.subject c.loop-field.atoms rest c.loop-field.later (omega arith)) (c.loop-field.invariant 0 (omega arith) rest)
