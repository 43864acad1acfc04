use Rattle.std.proofs.Common.{◌≡◌, ◌++◌, drop}
use Rattle.infer_parts.specs.Copies.{moved_fields}
use Rattle.infer_parts.proofs.copy.moved_fields.Given as goal

abbrev pub invariant-fields : goal.invariant-fields
invariant-fields l = l.made ++ moved_fields l.from l.copies (drop l.field-index l.fields) ≡ moved_fields l.from l.copies l.fields
