use Rattle.std.proofs.Common.{◌≡◌, ◌++◌}
use Rattle.sml_expansion.specs.Fields.{typed}
use Rattle.sml_expansion.proofs.labels.typed.Given as goal

abbrev pub invariant-loop-field : goal.invariant-loop-field
invariant-loop-field l = l.row ++ typed l.field-iterator.rest.items l.rest ≡ typed l.fn.fields l.types
