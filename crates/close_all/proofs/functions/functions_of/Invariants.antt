use Rattle.std.proofs.Common.{◌≡◌, map, take}
use Rattle.std.specs.Borrow.{Bor}
use Rattle.cps_ir.specs.declared.body.Function.{Function}
use Rattle.close_seen.specs.Seen.{functions_of}
use Rattle.close_all.proofs.functions.functions_of.Given as goal

abbrev pub invariant-loop-body : goal.invariant-loop-body
invariant-loop-body l = map (λ (f : Bor Function). f.now) l.found.items ≡ functions_of (take l.body-index l.bodies)
