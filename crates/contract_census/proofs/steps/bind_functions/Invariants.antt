use Rattle.std.specs.Prelude.{◌≡◌, drop}
use Rattle.contract_census.specs.Counting.{bind_functions}
use Rattle.contract_census.proofs.steps.bind_functions.Given as goal

abbrev pub invariant-loop-function : goal.invariant-loop-function
invariant-loop-function l = bind_functions l.within (drop l.function-index l.functions) l.counts.items ≡ bind_functions l.within l.functions l.fn.counts.items
