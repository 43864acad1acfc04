-- How much is left to do.
use Rattle.std.specs.Prelude.{ℕ, zero, suc, ◌+◌, List, [], ◌∷◌, Option, Some, None, length, take, slice_get}
use Rattle.placed_ir.specs.declared.body.Rule.{Rule}
use Rattle.placed_ir.specs.declared.body.End.{End}
use Rattle.placed_ir.specs.declared.body.End.TheVariants as end
use Rattle.placed_ir.specs.declared.body.Body.{Body}
use Rattle.emit_bodies.specs.declared.task.Task.{Task}
use Rattle.emit_bodies.specs.declared.task.Task.TheVariants.{Whole, Rules, Tests}
use Rattle.emit_bodies.specs.Layout.{rules_of}

module _ (part : ℕ → ℕ) where
  abbrev pub rules_weight : List Rule → ℕ
  rules_weight [] = 0
  rules_weight (r ∷ rules) = 2 + part r.body + rules_weight rules

  abbrev pub end_weight : End → ℕ
  end_weight (end.Match s rules otherwise) = length rules + rules_weight rules + part otherwise
  end_weight _ = 0

  abbrev pub body_weight : Option Body → ℕ
  body_weight None = 1
  body_weight (Some b) = 2 + end_weight b.end

-- down to so many levels
abbrev pub weight_within : ℕ → List Body → ℕ → ℕ
weight_within zero bodies i = 1
weight_within (suc k) bodies i = body_weight (weight_within k bodies) (slice_get bodies i)

module _ (bodies : List Body) where
  abbrev pub weight : ℕ → ℕ
  weight i = weight_within (length bodies) bodies i

  abbrev pub first_weight : ℕ → Option Body → ℕ
  first_weight n None = 0
  first_weight n (Some b) = rules_weight weight (take n (rules_of b.end))

  abbrev pub task_weight : Task → ℕ
  task_weight (Whole i group) = weight i
  task_weight (Rules i left group) = 1 + left + first_weight left (slice_get bodies i)
  task_weight (Tests i rule behind group) = 2 + rule + first_weight rule (slice_get bodies i)

  abbrev pub tasks_weight : List Task → ℕ
  tasks_weight [] = 0
  tasks_weight (t ∷ tasks) = task_weight t + tasks_weight tasks
