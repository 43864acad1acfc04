use Rattle.std.specs.Prelude.{◌≡◌, ◌++◌, map, take}
use Rattle.cps_contract.proofs.nodes.push_functions.Given as goal

abbrev pub invariant-loop-function : goal.invariant-loop-function
invariant-loop-function l = l.work.items ≡ l.fn.work.items ++ map (λ f. f.body) (take l.function-index l.functions)
