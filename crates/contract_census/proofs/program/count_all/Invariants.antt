use Rattle.std.specs.Prelude.{◌≡◌}
use Rattle.cps_ir.specs.Program.{code_at}
use Rattle.contract_census.specs.Run.{run_whole}
use Rattle.contract_census.proofs.Work.{run_work, work_weight}
use Rattle.contract_census.proofs.program.count_all.Given as goal

abbrev pub invariant-loop-task : goal.invariant-loop-task
invariant-loop-task l = run_work (code_at l.bodies) l.work.items l.counts.items ≡ run_whole l.program.variables (code_at l.bodies 0)

abbrev pub decreases-loop-task : goal.decreases-loop-task
decreases-loop-task l = work_weight (code_at l.bodies) l.work.items
