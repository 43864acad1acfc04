use Rattle.std.proofs.Common.{◌≡◌, drop}
use Rattle.std.specs.List.{list_all}
use Rattle.infer_parts.specs.Held.{held_at}
use Rattle.infer_parts.proofs.held.fields_held.Given as goal

abbrev pub invariant-each : goal.invariant-each
invariant-each l = list_all (λ f. held_at l.first l.table f.ty.0) (drop l.field-index l.fields) ≡ list_all (λ f. held_at l.first l.table f.ty.0) l.fields
