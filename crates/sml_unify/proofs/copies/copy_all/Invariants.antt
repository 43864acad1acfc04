use Rattle.std.proofs.Common.{nat_eq}
use Rattle.indexmap.specs.IndexMap.{get}
use Rattle.sml_unify.proofs.CopyFacts.{IsCopying}
use Rattle.sml_unify.proofs.copies.copy_all.Given as goal

abbrev pub invariant-each : goal.invariant-each
invariant-each l = IsCopying l.renames l.fn.types l.order l.entry-index l.types (get nat_eq l.copies)
