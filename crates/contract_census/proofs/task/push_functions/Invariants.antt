use Rattle.std.specs.Prelude.{◌≡◌, ◌++◌, map, take}
use Rattle.contract_census.specs.Tasks.{function_task}
use Rattle.contract_census.proofs.task.push_functions.Given as goal

abbrev pub invariant-loop-function : goal.invariant-loop-function
invariant-loop-function l = l.work.items ≡ l.fn.work.items ++ map function_task (take l.function-index l.functions)
