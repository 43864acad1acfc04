use Rattle.std.proofs.Common.{◌≡◌, ◌++◌}
use Rattle.sml_expansion.specs.Forests.{fields_at}
use Rattle.sml_expansion.proofs.parts.fields_at.Given as goal

abbrev pub invariant-loop-field : goal.invariant-loop-field
invariant-loop-field l = l.named ++ fields_at l.rest l.field-iterator.rest.items ≡ fields_at l.parts l.fn.fields
