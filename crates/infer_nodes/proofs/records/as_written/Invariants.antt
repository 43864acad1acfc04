use Rattle.std.proofs.Common.{◌≡◌, map, take}
use Rattle.infer_nodes.specs.Records.{as_written}
use Rattle.infer_nodes.proofs.records.as_written.Given as goal

abbrev pub invariant-fields : goal.invariant-fields
invariant-fields l = l.made.items ≡ map as_written (take l.field-index l.fields)
