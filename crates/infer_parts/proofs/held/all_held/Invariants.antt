use Rattle.std.proofs.Common.{◌≡◌, drop}
use Rattle.infer_parts.specs.Held.{all_held}
use Rattle.infer_parts.proofs.held.all_held.Given as goal

abbrev pub invariant-each : goal.invariant-each
invariant-each l = all_held l.first l.table (drop l.ty-index l.tys) ≡ all_held l.first l.table l.tys
