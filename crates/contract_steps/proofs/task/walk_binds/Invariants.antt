use Rattle.std.proofs.Common.{drop}
use Rattle.contract_steps.specs.State.{State, state_of}
use Rattle.contract_steps.specs.Steps.{BindsStep}
use Rattle.contract_steps.proofs.task.walk_binds.Given as goal

abbrev pub invariant-loop-bind : goal.invariant-loop-bind
invariant-loop-bind l = (n : State) → BindsStep l.program.bodies l.counts l.task (drop l.bind-index l.binds) (state_of l.round) n → BindsStep l.program.bodies l.counts l.task l.binds (state_of l.fn.round) n
