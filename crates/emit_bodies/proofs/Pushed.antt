-- Tasks that are pushed.
use Rattle.std.proofs.Common.{◌≡◌, ℕ, zero, suc, ◌-◌, ◌<◌, ◌≤◌, length, List, [], ◌∷◌, ◌++◌, Some, None, slice_get, refl, sym, ap, ◌∙◌, arith}
use Rattle.std.specs.Prelude.{slice_index_or}
use Rattle.placed_ir.specs.declared.body.Body.{Body}
use Rattle.emit_items.specs.declared.labels.Labels.{Labels}
use Rattle.emit_code.specs.Steps.{steps_items}
use Rattle.emit_bodies.specs.declared.task.Task.{Task}
use Rattle.emit_bodies.specs.Layout.{rules_of, rule_tasks, rules_tasks, steps_of}

pub tasks_none : (ts : List Task) → ts ++ [] ≡ ts
tasks_none [] = refl
tasks_none (t ∷ ts) = ap (λ us. t ∷ us) (tasks_none ts)

tasks_assoc : (ts us vs : List Task) → (ts ++ us) ++ vs ≡ ts ++ (us ++ vs)
tasks_assoc [] us vs = refl
tasks_assoc (t ∷ ts) us vs = ap (λ ws. t ∷ ws) (tasks_assoc ts us vs)

-- ---- Items of a list by their places

pub found_at : {X : Type 0} (xs : List X) (i : ℕ) (d x : X) → i < length xs → x ≡ slice_index_or xs i d → slice_get xs i ≡ Some x
found_at [] i d x lt e = absurd (omega (arith, lt))
found_at (y ∷ xs) zero d x lt e = ap Some (sym e)
found_at (y ∷ xs) (suc i) d x lt e = found_at xs i d x (omega (arith, lt)) e

pub lost_at : {X : Type 0} (xs : List X) (i : ℕ) → length xs ≤ i → slice_get xs i ≡ None
lost_at [] i h = refl
lost_at (y ∷ xs) zero h = absurd (omega (arith, h))
lost_at (y ∷ xs) (suc i) h = lost_at xs i (omega (arith, h))

-- ---- Pushes

-- two pushes are one
pub both_pushed : (old first new : List Task) (t u : Task) → first ≡ old ++ t ∷ [] → new ≡ first ++ u ∷ [] → new ≡ old ++ t ∷ u ∷ []
both_pushed old first new t u e h = h ∙ ap (λ ts. ts ++ u ∷ []) e ∙ tasks_assoc old (t ∷ []) (u ∷ [])

-- a push and more
pub more_pushed : (old first new more : List Task) (t : Task) → first ≡ old ++ t ∷ [] → new ≡ first ++ more → new ≡ old ++ t ∷ more
more_pushed old first new more t e h = h ∙ ap (λ ts. ts ++ more) e ∙ tasks_assoc old (t ∷ []) more

module _ (L : Labels) (bodies : List Body) where
  pub steps_none : (n left g : ℕ) (b : Body) (w : ℕ) → left ≡ 0 → rules_tasks L bodies n left g w (Some b) ≡ []
  steps_none n zero g b w e = refl
  steps_none n (suc k) g b w e = absurd (omega (arith, e))

  pub steps_all : (left g : ℕ) (b : Body) → left ≡ 0 → steps_of L bodies left g (Some b) ≡ steps_items L g b.steps
  steps_all zero g b e = refl
  steps_all (suc k) g b e = absurd (omega (arith, e))

  pub rule_last : (n left g : ℕ) (b : Body) (w : ℕ) → 0 < left → rules_tasks L bodies n left g w (Some b) ≡ rule_tasks L bodies n (left - 1) g w (slice_get (rules_of b.end) (left - 1))
  rule_last n zero g b w lt = absurd (omega (arith, lt))
  rule_last n (suc k) g b w lt =
      let same : k ≡ suc k - 1 = omega arith in
      ap (λ m. rule_tasks L bodies n m g w (slice_get (rules_of b.end) m)) same

  pub steps_later : (left g : ℕ) (b : Body) → 0 < left → steps_of L bodies left g (Some b) ≡ []
  steps_later zero g b lt = absurd (omega (arith, lt))
  steps_later (suc k) g b lt = refl
