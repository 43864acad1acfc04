use Rattle.std.proofs.Common.{◌≡◌, ◌++◌}
use Rattle.sml_expansion.specs.Forests.{rec_bindings_at}
use Rattle.sml_expansion.proofs.parts.rec_bindings_at.Given as goal

abbrev pub invariant-loop-binding : goal.invariant-loop-binding
invariant-loop-binding l = l.named ++ rec_bindings_at l.rest l.binding-iterator.rest.items ≡ rec_bindings_at l.parts l.fn.bindings
