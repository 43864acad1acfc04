use Rattle.std.proofs.Common.{◌≡◌, ◌++◌, drop, map}
use Rattle.infer_parts.specs.Copies.{moved_ty}
use Rattle.infer_parts.proofs.copy.moved_args.Given as goal

abbrev pub invariant-each : goal.invariant-each
invariant-each l = l.made ++ map (λ arg. moved_ty l.from l.copies arg) (drop l.arg-index l.args) ≡ map (λ arg. moved_ty l.from l.copies arg) l.args
