use Rattle.std.proofs.Common.{◌≡◌, ◌++◌, map, take}
use Rattle.std.specs.Borrow.{Bor}
use Rattle.cps_ir.specs.declared.body.Function.{Function}
use Rattle.close_all.proofs.functions.push_functions.Given as goal

abbrev pub invariant-loop-function : goal.invariant-loop-function
invariant-loop-function l = map (λ (f : Bor Function). f.now) l.found.items ≡ map (λ (f : Bor Function). f.now) l.fn.found.items ++ take l.function-index l.functions
