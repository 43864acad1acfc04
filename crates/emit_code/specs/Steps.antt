-- The items of steps in a row.
use Rattle.std.specs.Prelude.{ℕ, ◌-◌, ◌*◌, List, [], ◌∷◌, ◌++◌}
use Rattle.rv_asm.specs.declared.item.Item.{Item}
use Rattle.placed_ir.specs.declared.body.Step.{Step}
use Rattle.placed_ir.specs.declared.body.Step.TheVariants as step
use Rattle.emit_items.specs.declared.labels.Labels.{Labels}
use Rattle.emit_items.specs.Reading.{taken, named, handler_kept, let_in, handler_set}
use Rattle.emit_items.specs.Making.{group_words, made}
use Rattle.emit_items.specs.Primitives.{primitive_done}

-- the words of the group that was made last
abbrev pub group_after : ℕ → Step → ℕ
group_after group (step.Make buildings) = group_words buildings
group_after group _ = group

abbrev pub last_group : ℕ → List Step → ℕ
last_group group [] = group
last_group group (s ∷ steps) = last_group (group_after group s) steps

module _ (L : Labels) where
  abbrev pub step_items : ℕ → Step → List Item
  step_items group (step.Make buildings) = made L buildings
  step_items group (step.Name h n) = named h (8 * (group - n))
  step_items group (step.Let h s) = let_in L h s
  step_items group (step.Prim f sources) = primitive_done L f sources
  step_items group (step.Take h) = taken h
  step_items group (step.Handler h) = handler_kept h
  step_items group (step.SetHandler s) = handler_set L s

  abbrev pub steps_items : ℕ → List Step → List Item
  steps_items group [] = []
  steps_items group (s ∷ steps) = step_items group s ++ steps_items (group_after group s) steps
