use Rattle.std.proofs.Common.{take}
use Rattle.infer_nodes.specs.Records.{AreFieldTys}
use Rattle.infer_nodes.proofs.records.field_tys.Given as goal

abbrev pub invariant-fields : goal.invariant-fields
invariant-fields l = AreFieldTys l.bare l.types (take l.field-index l.fields) l.tys.items
