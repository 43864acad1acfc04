use Rattle.std.proofs.Common.{◌≡◌, ◌≤◌, length, drop, [], ◌∷◌}
use Rattle.sml_tree.specs.Sets.{union_over}
use Rattle.sml_tree.proofs.free.of_names.Given as goal

abbrev pub invariant-loop-i : goal.invariant-loop-i
invariant-loop-i l = record { within : l.i ≤ length l.bindings; done : l.set.items ≡ union_over (λ b. b.name.0 ∷ []) (drop l.i l.bindings) }

abbrev pub decreases-loop-i : goal.decreases-loop-i
decreases-loop-i l = l.i
