use Rattle.std.proofs.Common.{◌≡◌, ◌≤◌, length, drop}
use Rattle.sml_tree.specs.Sets.{union_over, row_at}
use Rattle.sml_tree.specs.Free.{scoped}
use Rattle.sml_tree.proofs.free.of_rules.Given as goal

abbrev pub invariant-loop-i : goal.invariant-loop-i
invariant-loop-i l = record { within : l.i ≤ length l.rules; done : l.set.items ≡ union_over (λ r. scoped (row_at l.binds) (row_at l.frees) r.pat r.body) (drop l.i l.rules) }

abbrev pub decreases-loop-i : goal.decreases-loop-i
decreases-loop-i l = l.i
