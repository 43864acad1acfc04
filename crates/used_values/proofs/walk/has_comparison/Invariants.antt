use Rattle.std.proofs.Common.{◌≡◌}
use Rattle.std.specs.Prelude.{◌||◌}
use Rattle.std.specs.List.{list_any}
use Rattle.cps_ir.specs.Program.{code_at}
use Rattle.close_laws.specs.Close.{compares}
use Rattle.used_values.specs.Own.{bodies_in}
use Rattle.used_values.proofs.Trees.{weight}
use Rattle.used_values.proofs.walk.has_comparison.Given as goal

abbrev pub invariant-loop-i : goal.invariant-loop-i
invariant-loop-i l = (list_any (λ c. compares (code_at l.bodies c)) l.work.items || l.found) ≡ compares (code_at l.bodies 0)

abbrev pub decreases-loop-i : goal.decreases-loop-i
decreases-loop-i l = weight (λ c. bodies_in (code_at l.bodies c)) l.work.items
