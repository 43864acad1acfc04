use Rattle.std.proofs.Common.{◌≡◌, ◌++◌, drop}
use Rattle.emit_items.specs.Making.{fields_put}
use Rattle.emit_code.proofs.making.put_fields.Given as goal

abbrev pub invariant-loop-field : goal.invariant-loop-field
invariant-loop-field l = l.items.items ++ fields_put l.labels l.offset (drop l.field-index l.fields) ≡ l.fn.items.items ++ fields_put l.labels l.fn.first l.fields
