use Rattle.std.proofs.Common.{◌≡◌, ◌++◌, map, take}
use Rattle.used_values.proofs.parts.push_functions.Given as goal

abbrev pub invariant-loop-function : goal.invariant-loop-function
invariant-loop-function l = l.work.items ≡ l.fn.work.items ++ map (λ x. x.body) (take l.function-index l.functions)
