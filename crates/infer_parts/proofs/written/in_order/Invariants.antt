use Rattle.std.proofs.Common.{◌≡◌, ◌++◌, drop}
use Rattle.infer_parts.specs.Written.{in_order}
use Rattle.infer_parts.proofs.written.in_order.Given as goal

abbrev pub invariant-fields : goal.invariant-fields
invariant-fields l = l.made ++ in_order (drop l.at l.fields) (drop l.at l.tys) ≡ in_order l.fields l.tys
