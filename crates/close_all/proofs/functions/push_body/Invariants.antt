use Rattle.std.proofs.Common.{◌≡◌, ◌++◌, map, flat_map, take}
use Rattle.std.specs.Borrow.{Bor}
use Rattle.cps_ir.specs.declared.body.Function.{Function}
use Rattle.close_seen.specs.Seen.{bind_functions}
use Rattle.close_all.proofs.functions.push_body.Given as goal

abbrev pub invariant-loop-bind : goal.invariant-loop-bind
invariant-loop-bind l = map (λ (f : Bor Function). f.now) l.found.items ≡ map (λ (f : Bor Function). f.now) l.fn.found.items ++ flat_map bind_functions (take l.bind-index l.bind-items)
