use Rattle.std.proofs.Common.{refl, ◌+◌, ◌++◌, ◌*◌}
use Rattle.emit_items.specs.Reading.{got, where_got, word_stored}
use Rattle.emit_items.specs.Making.{fields_put}
use Rattle.emit_code.proofs.Loops.{one_more}
use Rattle.emit_code.proofs.making.put_fields.Goals as goal

pub loop-field-preserved : goal.loop-field-preserved
loop-field-preserved c =
    let L = c.args.labels.now in
    one_more (λ n s. got L 5 s ++ word_stored 8 (where_got 5 s) (8 * n)) (λ n s. n + 1) (fields_put L) (λ n s ss. refl) c.args.fields.now c.loop-field.field-index _ c.field-item.result c.loop-field.offset c.in_ok-offset.offset _ _ _ c.loop-field-test.true c.field-item.is
    c.in_ok-offset.ensures c.in_ok-put_field.ensures c.loop-field.invariant
