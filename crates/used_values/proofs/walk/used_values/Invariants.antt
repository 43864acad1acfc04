use Rattle.std.proofs.Common.{◌≡◌, ℕ}
use Rattle.std.specs.Prelude.{◌||◌}
use Rattle.std.specs.List.{list_any}
use Rattle.sml_tree.specs.Sets.{has}
use Rattle.cps_ir.specs.Program.{code_at}
use Rattle.close_laws.specs.Layouts.{values}
use Rattle.used_values.specs.Own.{bodies_in}
use Rattle.used_values.proofs.Trees.{weight}
use Rattle.used_values.proofs.walk.used_values.Given as goal

abbrev pub invariant-loop-i : goal.invariant-loop-i
invariant-loop-i l = (z : ℕ) → (list_any (λ c. has (values (code_at l.bodies c)) z) l.work.items || has l.set.keys z) ≡ has (values (code_at l.bodies 0)) z

abbrev pub decreases-loop-i : goal.decreases-loop-i
decreases-loop-i l = weight (λ c. bodies_in (code_at l.bodies c)) l.work.items
