use Rattle.cps_ir.specs.Code.{Halt}
use Rattle.contract_steps.specs.State.{state_of}
use Rattle.contract_holds.specs.Open.{all_nodes}
use Rattle.contract_holds.specs.Law.{Follows}
use Rattle.cps_contract.proofs.walk.walk_all.Given as goal

abbrev pub invariant-loop-task : goal.invariant-loop-task
invariant-loop-task l = Follows l.program l.counts.items (state_of l.round)

abbrev pub decreases-loop-task : goal.decreases-loop-task
decreases-loop-task l = all_nodes l.program.bodies Halt (state_of l.round)
