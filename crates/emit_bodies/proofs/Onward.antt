-- One task after another.
use Rattle.std.proofs.Common.{◌≡◌, ℕ, ◌+◌, ◌<◌, List, [], ◌∷◌, ◌++◌, sym, ap, ◌∙◌, arith}
use Rattle.rv_asm.specs.declared.item.Item.{Item}
use Rattle.placed_ir.specs.declared.body.Body.{Body}
use Rattle.place_bodies.proofs.Unfold.{AreNumbered}
use Rattle.emit_items.specs.declared.labels.Labels.{Labels}
use Rattle.emit_bodies.specs.declared.task.Task.{Task}
use Rattle.emit_bodies.specs.Layout.{text_of, laid}
use Rattle.emit_bodies.specs.Weights.{task_weight, tasks_weight}
use Rattle.emit_bodies.proofs.Laws.{laid_both}
use Rattle.emit_bodies.proofs.Weighing.{both_tasks}

module _ (L : Labels) (bodies : List Body) where
  pub step_text : (ts new us : List Task) (t : Task) (text now made : List Item) → new ≡ ts ++ us → now ≡ made ++ text → text_of L bodies t text ≡ laid L bodies us (made ++ text) → laid L bodies new now ≡ laid L bodies ts (text_of L bodies t text)
  step_text ts new us t text now made e n h =
      ap (λ ps. laid L bodies ps now) e
      ∙ ap (laid L bodies (ts ++ us)) n
      ∙ laid_both L bodies ts us (made ++ text)
      ∙ ap (laid L bodies ts) (sym h)

  -- the last task is taken off
  pub taken_off : (ts all : List Task) (t : Task) (text : List Item) → all ≡ ts ++ t ∷ [] → laid L bodies all text ≡ laid L bodies ts (text_of L bodies t text)
  taken_off ts all t text e = ap (λ ps. laid L bodies ps text) e ∙ laid_both L bodies ts (t ∷ []) text

module _ (bodies : List Body) (numbered : AreNumbered bodies) where
  pub step_less : (ts new us : List Task) (t : Task) → new ≡ ts ++ us → tasks_weight bodies us < task_weight bodies t → tasks_weight bodies new < tasks_weight bodies ts + task_weight bodies t
  step_less ts new us t e lt =
      let sum : tasks_weight bodies new ≡ tasks_weight bodies ts + tasks_weight bodies us = ap (tasks_weight bodies) e ∙ both_tasks bodies numbered ts us in
      omega (arith, sum, lt)

  pub off_less : (ts all : List Task) (t : Task) (n : ℕ) → all ≡ ts ++ t ∷ [] → n < tasks_weight bodies ts + task_weight bodies t → n < tasks_weight bodies all
  off_less ts all t n e lt =
      let sum : tasks_weight bodies all ≡ tasks_weight bodies ts + tasks_weight bodies (t ∷ []) = ap (tasks_weight bodies) e ∙ both_tasks bodies numbered ts (t ∷ []) in
      omega (arith, sum, lt)
