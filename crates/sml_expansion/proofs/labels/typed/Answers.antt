use Rattle.sml_expansion.proofs.FieldLemmas.{typed_stops}
use Rattle.sml_expansion.proofs.labels.typed.Goals as goal

pub loop-field-preserved-then-rest-lt1 : goal.loop-field-preserved-then-rest-lt1
loop-field-preserved-then-rest-lt1 c = typed_stops c.loop-field.row c.loop-field.field-iterator.rest.items c.next.new.self.rest.items c.loop-field.rest.now _ c.in_default.len_below c.loop-field.invariant
