-- What is counted in a body, and what is left to count behind it.
use Rattle.std.specs.Prelude.{ℕ, List, [], ◌∷◌, ◌++◌, map, flat_map, Option, Some, None, slice_get}
use Rattle.cps_ir.specs.declared.body.Function.{Function}
use Rattle.cps_ir.specs.declared.body.Bind.{Bind}
use Rattle.cps_ir.specs.declared.body.Bind.TheVariants as bind
use Rattle.cps_ir.specs.declared.body.Rule.{Rule}
use Rattle.cps_ir.specs.declared.body.End.{End}
use Rattle.cps_ir.specs.declared.body.End.TheVariants as end
use Rattle.cps_ir.specs.declared.body.Body.{Body}
use Rattle.contract_census.specs.declared.counts.Count.{Count}
use Rattle.contract_census.specs.declared.counts.Event.TheVariants as event
use Rattle.contract_census.specs.declared.task.Task.{Task}
use Rattle.contract_census.specs.declared.task.Task.TheVariants as task
use Rattle.contract_census.specs.Counting.{noted, count_binds, count_end}

abbrev pub function_task : Function → Task
function_task f = task.Function f.name f.body

abbrev pub rule_task : Option ℕ → Rule → Task
rule_task within r = task.Body r.body within

abbrev pub bind_tasks : Bind → List Task
bind_tasks (bind.Fix fs) = map function_task fs
bind_tasks _ = []

abbrev pub end_tasks : Option ℕ → End → List Task
end_tasks within (end.Match a rules otherwise) = map (rule_task within) rules ++ task.Body otherwise within ∷ []
end_tasks within _ = []

abbrev pub body_tasks : Option ℕ → Body → List Task
body_tasks within b = flat_map bind_tasks b.binds ++ end_tasks within b.end

abbrev pub count_body : Option ℕ → Body → List Count → List Count
count_body within b counts = count_end within b.end (count_binds within b.binds counts)

-- a body that isn't there has nothing
abbrev pub found_tasks : Option ℕ → Option Body → List Task
found_tasks within None = []
found_tasks within (Some b) = body_tasks within b

abbrev pub count_found : Option ℕ → Option Body → List Count → List Count
count_found within None counts = counts
count_found within (Some b) counts = count_body within b counts

module _ (bodies : List Body) where
  -- those that a task leaves
  abbrev pub tasks_behind : Task → List Task
  tasks_behind (task.Body i within) = found_tasks within (slice_get bodies i)
  tasks_behind (task.Function f i) = task.Close f ∷ task.Body i (Some f) ∷ []
  tasks_behind (task.Close f) = []

  abbrev pub count_task : Task → List Count → List Count
  count_task (task.Body i within) counts = count_found within (slice_get bodies i) counts
  count_task (task.Function f i) counts = noted event.Opened f counts
  count_task (task.Close f) counts = noted event.Closed f counts
