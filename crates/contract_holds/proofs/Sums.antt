-- Sums over what is still to be walked.
use Rattle.std.proofs.Common.{◌≡◌, ℕ, zero, suc, ◌+◌, ◌≤◌, ◌<◌, List, [], ◌∷◌, ◌++◌, Option, Some, None, length, refl, arith}
use Rattle.std.specs.Prelude.{get_or, slice_set}
use Rattle.std.specs.List.{AllByRecursion}
use Rattle.simulation.proofs.Lists.{some_eq}
use Rattle.cps_ir.specs.declared.body.Body.{Body}
use Rattle.cps_ir.specs.Code.{Code}
use Rattle.cps_ir.specs.Program.{code_at}
use Rattle.contract_group.specs.declared.task.Placed.{Placed}
use Rattle.contract_group.specs.declared.task.Task.{Task}
use Rattle.contract_holds.specs.Open.{work_sum, placed_sum}

module _ (source : List Body) where
  pub work_append : (m : Code → ℕ) (ts us : List Task) → work_sum source m (ts ++ us) ≡ work_sum source m ts + work_sum source m us
  work_append m [] us = omega arith
  work_append m (t ∷ ts) us = let h = work_append m ts us in omega arith

  pub work_each : (work : List Task) (Q : Task → Type 0) → ((t : Task) → ((m : Code → ℕ) → m (code_at source t.body) ≤ work_sum source m work) → Q t) → AllByRecursion Q work
  work_each [] Q f = tt
  work_each (t ∷ work) Q f = (f t (λ m. omega arith), work_each work Q (λ u h. f u (λ m. let g = h m in omega arith)))

  module _ (m : List ℕ → Code → ℕ) where
    abbrev of : Placed → ℕ
    of p = m p.params (code_at source p.body)

    pub placed_set : (placed : List (Option Placed)) (f : ℕ) (p : Placed) → f < length placed → get_or placed f None ≡ None → placed_sum source m (slice_set placed f (Some p)) ≡ of p + placed_sum source m placed
    placed_set [] f p l e = absurd (omega arith)
    placed_set (None ∷ placed) zero p l e = refl
    placed_set (Some q ∷ placed) zero p l e = absurd (cc)
    placed_set (None ∷ placed) (suc f) p l e = placed_set placed f p (omega arith) e
    placed_set (Some q ∷ placed) (suc f) p l e = let h = placed_set placed f p (omega arith) e in omega arith

    pub placed_unset : (placed : List (Option Placed)) (f : ℕ) (p : Placed) → get_or placed f None ≡ Some p → of p + placed_sum source m (slice_set placed f None) ≡ placed_sum source m placed
    placed_unset [] f p e = absurd (cc)
    placed_unset (None ∷ placed) zero p e = absurd (cc)
    placed_unset (Some q ∷ placed) zero p e = some_eq (λ r. of r + placed_sum source m placed ≡ of q + placed_sum source m placed) q p e refl
    placed_unset (None ∷ placed) (suc f) p e = placed_unset placed f p e
    placed_unset (Some q ∷ placed) (suc f) p e = let h = placed_unset placed f p e in omega arith

    pub placed_part : (placed : List (Option Placed)) (f : ℕ) (p : Placed) → get_or placed f None ≡ Some p → of p ≤ placed_sum source m placed
    placed_part placed f p e = let h = placed_unset placed f p e in omega arith

    -- another one is behind
    pub placed_two : (placed : List (Option Placed)) (f g : ℕ) (p q : Placed) → f < g → get_or placed f None ≡ Some p → get_or placed g None ≡ Some q → of p + of q ≤ placed_sum source m placed
    placed_two [] f g p q l d e = absurd (cc)
    placed_two (o ∷ placed) f zero p q l d e = absurd (omega arith)
    placed_two (None ∷ placed) zero (suc g) p q l d e = absurd (cc)
    placed_two (Some r ∷ placed) zero (suc g) p q l d e = let h = placed_part placed g q e in some_eq (λ x. of x + of q ≤ of r + placed_sum source m placed) r p d (omega arith)
    placed_two (None ∷ placed) (suc f) (suc g) p q l d e = placed_two placed f g p q (omega arith) d e
    placed_two (Some r ∷ placed) (suc f) (suc g) p q l d e = let h = placed_two placed f g p q (omega arith) d e in omega arith
