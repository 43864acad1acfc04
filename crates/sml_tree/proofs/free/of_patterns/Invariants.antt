use Rattle.std.proofs.Common.{◌≡◌, ◌≤◌, length, drop}
use Rattle.sml_tree.specs.Sets.{union_over, row_at}
use Rattle.sml_tree.proofs.free.of_patterns.Given as goal

abbrev pub invariant-loop-i : goal.invariant-loop-i
invariant-loop-i l = record { within : l.i ≤ length l.bindings; done : l.set.items ≡ union_over (λ b. row_at l.binds b.pat) (drop l.i l.bindings) }

abbrev pub decreases-loop-i : goal.decreases-loop-i
decreases-loop-i l = l.i
