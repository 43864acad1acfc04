-- How large the factor of a plan is.
use Rattle.std.specs.Prelude.{ℕ, ◌≤◌}
use Rattle.sml_tree.specs.IsBare.{IsDistinct}
use Rattle.cps_ir.specs.Code.{Tree}
use Rattle.cps_ir.specs.Free.{bound}
use Rattle.cps_ir.specs.Slim.{IsSlim}
use Rattle.close_laws.specs.Plan.{plan}

-- of a slim program that binds no variable twice
abbrev pub FactorIsAtMost4 : Type 0
FactorIsAtMost4 = (fresh : ℕ) (q : Tree) → IsDistinct (bound q.code) → IsSlim q → (plan fresh q).factor ≤ 4
