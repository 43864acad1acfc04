use Rattle.std.proofs.Common.{◌≡◌, ◌++◌, [], None, sym, ap, ◌∙◌, append-nil}
use Rattle.std.specs.Prelude.{slice_get}
use Rattle.contract_census.specs.Tasks.{found_tasks, tasks_behind}
use Rattle.contract_census.proofs.Work.{none_past}
use Rattle.contract_census.proofs.task.count_task.Goals as goal

pub returns-in-None-clause-work : goal.returns-in-None-clause-work
returns-in-None-clause-work c =
    let none : slice_get c.args.bodies.now c.in-Body.body ≡ None = none_past c.args.bodies.now c.in-Body.body c.in-None.ensures.lookup.3 in
    let left : tasks_behind c.args.bodies.now c.args.task ≡ [] = ap (tasks_behind c.args.bodies.now) c.in-Body.is ∙ ap (found_tasks c.in-Body.within) none in
    sym (ap (λ ts. c.args.work.now.items ++ ts) left ∙ append-nil c.args.work.now.items)
