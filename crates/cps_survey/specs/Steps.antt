-- What stands in a body itself, and the bodies that stand in it: the tasks of a walk.
use Rattle.std.specs.Prelude.{ℕ, suc, ◌+◌, List, [], ◌∷◌, ◌++◌, Option, Some, None, flat_map, map, length, slice_get}
use Rattle.smlc_base.specs.declared.point.Point.{Point}
use Rattle.sml_tree.specs.Sets.{without}
use Rattle.cps_ir.specs.declared.body.Function.{Function as Entry}
use Rattle.cps_ir.specs.declared.body.Bind.{Bind}
use Rattle.cps_ir.specs.declared.body.Bind.TheVariants as bind
use Rattle.cps_ir.specs.declared.body.Rule.{Rule as Chosen}
use Rattle.cps_ir.specs.declared.body.End.{End}
use Rattle.cps_ir.specs.declared.body.End.TheVariants as end
use Rattle.cps_ir.specs.declared.body.Body.{Body}
use Rattle.cps_ir.specs.Code.{Code, Make, Pick, Prim, Equal, Fix, Call, Match, Handler, SetHandler, Throw, Halt, Functions, NoFunction, Function, Rules, Otherwise, Rule}
use Rattle.cps_ir.specs.Slim.{Layout}
use Rattle.lifetime_users.specs.Users.{Binding, binding}
use Rattle.cps_survey.specs.declared.tasks.Task.{Task}
use Rattle.cps_survey.specs.declared.tasks.Task.TheVariants as task

abbrev pub layout : ℕ → Point → List ℕ → Layout
layout name point free = record { name = name; point = point; free = free }

-- a variable in the body of a function
abbrev pub bound_in : Option ℕ → ℕ → Task
bound_in home x = task.Bound (binding home x)

abbrev pub rule_tasks : Option ℕ → List Chosen → List Task
rule_tasks home rules = map (λ r. task.Body home r.body) rules

abbrev pub end_tasks : Option ℕ → End → List Task
end_tasks home (end.Match a rules otherwise) = rule_tasks home rules ++ task.Body home otherwise ∷ []
end_tasks home _ = []

-- where the bodies have these free variables
module _ (free : ℕ → List ℕ) where
  abbrev pub layout_of : Entry → Layout
  layout_of f = layout f.name f.point (without (free f.body) f.params)

  -- the function itself, its parameters and its body
  abbrev pub function_tasks : Entry → List Task
  function_tasks f = task.Found (layout_of f) ∷ (map (bound_in (Some f.name)) f.params ++ task.Body (Some f.name) f.body ∷ [])

  abbrev pub bind_tasks : Option ℕ → Bind → List Task
  bind_tasks home (bind.Make x shape atoms) = bound_in home x ∷ []
  bind_tasks home (bind.Pick x i a) = bound_in home x ∷ []
  bind_tasks home (bind.Prim x f atoms) = bound_in home x ∷ []
  bind_tasks home (bind.Fix fs) = flat_map function_tasks fs
  bind_tasks home (bind.Handler x) = bound_in home x ∷ []
  bind_tasks home (bind.SetHandler a) = []

  abbrev pub body_tasks : Option ℕ → Body → List Task
  body_tasks home b = flat_map (bind_tasks home) b.binds ++ end_tasks home b.end

  abbrev pub tasks_at : Option ℕ → Option Body → List Task
  tasks_at home None = []
  tasks_at home (Some b) = body_tasks home b

  -- of a task, if it is a body
  abbrev pub task_parts : List Body → Task → List Task
  task_parts bodies (task.Body home i) = tasks_at home (slice_get bodies i)
  task_parts bodies _ = []

-- what a task has found
abbrev pub layout_found : Task → List Layout
layout_found (task.Found l) = l ∷ []
layout_found _ = []

abbrev pub binding_found : Task → List Binding
binding_found (task.Bound b) = b ∷ []
binding_found _ = []

-- how many tasks the walk over a body has
abbrev mutual
  pub turns : Code → ℕ
  turns (Make x shape atoms c) = suc (turns c)
  turns (Pick x i a c) = suc (turns c)
  turns (Prim x f atoms c) = suc (turns c)
  turns (Equal a b truth k) = 1
  turns (Fix fs c) = turns_functions fs + turns c
  turns (Call a atoms) = 1
  turns (Match a rules) = suc (turns_rules rules)
  turns (Handler x c) = suc (turns c)
  turns (SetHandler a c) = turns c
  turns (Throw a) = 1
  turns Halt = 1

  pub turns_functions : Functions → ℕ
  turns_functions NoFunction = 0
  turns_functions (Function f p params body fs) = suc (length params + (turns body + turns_functions fs))

  pub turns_rules : Rules → ℕ
  turns_rules (Otherwise c) = turns c
  turns_rules (Rule tests c rules) = turns c + turns_rules rules
