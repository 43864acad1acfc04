use Rattle.std.proofs.Common.{◌≡◌, ◌++◌, drop, map, nat_eq}
use Rattle.indexmap.specs.IndexMap.{get}
use Rattle.sml_unify.specs.Copies.{copied_ty}
use Rattle.sml_unify.proofs.copies.copied_args.Given as goal

abbrev pub invariant-each : goal.invariant-each
invariant-each l = l.made ++ map (λ arg. copied_ty (get nat_eq l.copies) arg) (drop l.arg-index l.args) ≡ map (λ arg. copied_ty (get nat_eq l.copies) arg) l.args
