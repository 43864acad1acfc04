use Rattle.std.proofs.Common.{◌≡◌, ◌++◌, drop, nat_eq}
use Rattle.indexmap.specs.IndexMap.{get}
use Rattle.sml_unify.specs.Copies.{copied_fields}
use Rattle.sml_unify.proofs.copies.copied_fields.Given as goal

abbrev pub invariant-fields : goal.invariant-fields
invariant-fields l = l.made ++ copied_fields (get nat_eq l.copies) (drop l.field-index l.fields) ≡ copied_fields (get nat_eq l.copies) l.fields
