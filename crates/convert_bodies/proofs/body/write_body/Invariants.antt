use Rattle.std.proofs.Common.{[], false}
use Rattle.convert_decide.specs.Decide.{item_in}
use Rattle.convert_steps.specs.Codes.{work_code}
use Rattle.convert_steps.specs.Writes.{Writes}
use Rattle.convert_steps.specs.declared.task.Step.TheVariants as step
use Rattle.convert_bodies.proofs.body.write_body.Given as goal

-- what is left is the rest of the task
abbrev pub invariant-loop : goal.invariant-loop
invariant-loop l =
    Writes (item_in false l.fn.source.own.now) l.fn.source.terms.now l.fn.world [] l.world l.binds (λ σ κ. work_code (item_in false l.fn.source.own.now) l.fn.source.terms.now l.fn.task.work σ κ l.fn.task.next) l.fn.task.scope l.fn.task.continuation (step.Go l.left)
