use Rattle.std.proofs.Common.{◌≡◌, ◌≤◌, length, drop}
use Rattle.sml_tree.specs.Sets.{union_over, row_at, union}
use Rattle.sml_tree.proofs.free.of_bindings.Given as goal

abbrev pub invariant-loop-i : goal.invariant-loop-i
invariant-loop-i l = record { within : l.i ≤ length l.bindings; done : l.set.items ≡ union_over (λ b. union (row_at l.frees b.pat) (row_at l.frees b.right)) (drop l.i l.bindings) }

abbrev pub decreases-loop-i : goal.decreases-loop-i
decreases-loop-i l = l.i
