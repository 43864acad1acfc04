-- One more item of a list is looked at.
use Rattle.std.proofs.Common.{◌≡◌, ℕ, ◌+◌, ◌<◌, ◌≤◌, List, Some, sym, ap, ◌∙◌, arith, subst, inl, inr, ◌⊎◌}
use Rattle.std.specs.Prelude.{slice_get}
use Rattle.std.proofs.lemmas.Bool.{cases_lt}
use Rattle.infer_tables.proofs.Lists.{some_eq}

pub one_more : {A : Type 0} (P : ℕ → A → Type 0) (xs : List A) (at : ℕ) (x : A) → ((i : ℕ) (e : A) → i < at → slice_get xs i ≡ Some e → P i e) → slice_get xs at ≡ Some x → P at x → (i : ℕ) (e : A) → i < at + 1 → slice_get xs i ≡ Some e → P i e
one_more P xs at x before here now i e l q = by (cases_lt i at)
  where
    by : (i < at) ⊎ (at ≤ i) → P i e
    by (inl k) = before i e k q
    by (inr k) =
        let same : i ≡ at = omega arith in
        let is : x ≡ e = some_eq x e (sym here ∙ ap (slice_get xs) (sym same) ∙ q) in
        subst (λ j. P j e) (sym same) (subst (P at) is now)
