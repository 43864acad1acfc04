use Rattle.std.proofs.Common.{◌≡◌, take}
use Rattle.sml_expansion.specs.Expressions.{rec_bindings}
use Rattle.sml_derive.proofs.value_declarations.rec_row.Given as goal

abbrev pub invariant-loop-bound : goal.invariant-loop-bound
invariant-loop-bound l = l.row ≡ rec_bindings (take l.bound-index l.names)
