use Rattle.std.proofs.Common.{◌≡◌, map, take}
use Rattle.cps_ir.specs.Program.{code_at}
use Rattle.cps_ir.specs.Slim.{Layout}
use Rattle.close_laws.specs.Layouts.{facts}
use Rattle.closure_layouts.specs.Found.{closure_at}
use Rattle.closure_layouts.proofs.layouts.closure_layouts.Given as goal

abbrev pub invariant-loop-function : goal.invariant-loop-function
invariant-loop-function l = l.found.items ≡ map (λ (k : Layout). closure_at (facts l.program.variables (code_at l.program.bodies 0)) k.point) (take l.function-index l.all)
