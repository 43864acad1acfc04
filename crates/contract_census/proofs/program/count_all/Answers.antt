use Rattle.std.proofs.Common.{sym, subst, ◌∙◌}
use Rattle.cps_free.proofs.Unfold.{AreNumbered}
use Rattle.contract_census.proofs.Work.{work_step, work_less}
use Rattle.contract_census.proofs.program.count_all.Goals as goal

pub loop-task-smaller : goal.loop-task-smaller
loop-task-smaller c =
    let bodies = c.bodies-bodies.result.now in
    let numbered : AreNumbered bodies = subst AreNumbered (sym c.bodies-bodies.ensures.bodies) c.bodies-bodies.ensures.kept.numbered in
    work_less bodies numbered c.loop-task.work.items c.pop.new.self.items c.count_task.new.work.items c.in-Some.task c.in-Some.ensures.items c.in_ok-count_task.ensures.work

pub loop-task-preserved : goal.loop-task-preserved
loop-task-preserved c =
    let bodies = c.bodies-bodies.result.now in
    let numbered : AreNumbered bodies = subst AreNumbered (sym c.bodies-bodies.ensures.bodies) c.bodies-bodies.ensures.kept.numbered in
    work_step bodies numbered c.loop-task.work.items c.pop.new.self.items c.count_task.new.work.items c.in-Some.task c.loop-task.counts.items c.count_task.new.counts.items c.in-Some.ensures.items c.in_ok-count_task.ensures.work c.in_ok-count_task.ensures.counts
    ∙ c.loop-task.invariant
