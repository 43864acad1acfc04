use Rattle.std.proofs.Common.{◌≡◌, [], subst, rules}
use Rattle.contract_steps.specs.State.{state_of}
use Rattle.contract_steps.specs.Steps.{TaskStep}
use Rattle.contract_holds.specs.Law.{IsBegun, with_work}
use Rattle.contract_holds.proofs.Rounds.{begins, goes_on, ends}
use Rattle.cps_contract.proofs.walk.walk_all.Goals as goal

pub loop-task-init : goal.loop-task-init
loop-task-init c =
    begins c.args.program.now c.in_ok-counts.counts.items (state_of c.in_ok-round.round) c.bodies.ensures.kept c.in_ok-counts.ensures
    (subst (λ v. IsBegun v (state_of c.in_ok-round.round)) c.variables.ensures c.in_ok-round.ensures)

pub loop-task-smaller : goal.loop-task-smaller
loop-task-smaller c =
    let s = state_of c.loop-task.round in
    let step = subst (λ k. TaskStep c.args.program.now.texts c.args.program.now.bodies k c.in-Some.task (with_work s c.pop.new.self.items) (state_of c.walk_task.new.round)) c.as_slice.ensures.value c.in_ok-walk_task.ensures in
    (goes_on c.args.program.now c.in_ok-counts.counts.items s (state_of c.walk_task.new.round) c.pop.new.self.items c.in-Some.task c.bodies.ensures.kept c.loop-task.invariant c.in-Some.ensures.items step).1

pub loop-task-preserved : goal.loop-task-preserved
loop-task-preserved c =
    let s = state_of c.loop-task.round in
    let step = subst (λ k. TaskStep c.args.program.now.texts c.args.program.now.bodies k c.in-Some.task (with_work s c.pop.new.self.items) (state_of c.walk_task.new.round)) c.as_slice.ensures.value c.in_ok-walk_task.ensures in
    (goes_on c.args.program.now c.in_ok-counts.counts.items s (state_of c.walk_task.new.round) c.pop.new.self.items c.in-Some.task c.bodies.ensures.kept c.loop-task.invariant c.in-Some.ensures.items step).0

pub returns : goal.returns
returns c =
    let none : c.loop-task.round.work.items ≡ [] = search rules in
    ends c.args.program.now c.in_ok-counts.counts.items (state_of c.loop-task.round) c.loop-task.invariant none
