-- What is defined by levels, so many as there are terms, holds of a term by what is behind it.
use Rattle.std.proofs.Common.{◌≡◌, ℕ, zero, suc, ◌+◌, ◌<◌, ◌≤◌, List, Option, Some, None, length, refl, sym, ap, ◌∙◌, arith}
use Rattle.std.specs.Prelude.{slice_get}
use Rattle.std.proofs.lemmas.Option.{slice_get_past}
use Rattle.lambda_ir.specs.declared.term.Term.{Term}
use Rattle.lambda_ir.specs.Free.{at_term, within_terms, from_terms}

-- what is made of a term goes by what is made of those with greater numbers
abbrev pub GoesByLater : {A : Type 0} → ((ℕ → A) → ℕ → Term → A) → List Term → Type 0
GoesByLater {A} each terms =
    (f g : ℕ → A) (i : ℕ) (t : Term) → slice_get terms i ≡ Some t → ((c : ℕ) → i < c → f c ≡ g c) → each f i t ≡ each g i t

module _ {A : Type 0} (none : A) (each : (ℕ → A) → ℕ → Term → A) (terms : List Term) (by_later : GoesByLater each terms) where
  past_at : (f : ℕ → A) (i : ℕ) → length terms ≤ i → at_term none each f i (slice_get terms i) ≡ none
  past_at f i h = ap (at_term none each f i) (slice_get_past terms i h)

  same_at : (f g : ℕ → A) (i : ℕ) → ((c : ℕ) → i < c → f c ≡ g c) → at_term none each f i (slice_get terms i) ≡ at_term none each g i (slice_get terms i)
  same_at f g i same = go (slice_get terms i) refl
    where
      go : (o : Option Term) → slice_get terms i ≡ o → at_term none each f i o ≡ at_term none each g i o
      go None e = refl
      go (Some t) e = by_later f g i t e same

  enough : (k m i : ℕ) → length terms ≤ k + i → length terms ≤ m + i → within_terms none each k terms i ≡ within_terms none each m terms i
  enough zero zero i hk hm = refl
  enough zero (suc m) i hk hm = sym (past_at (within_terms none each m terms) i (omega arith))
  enough (suc k) zero i hk hm = past_at (within_terms none each k terms) i (omega arith)
  enough (suc k) (suc m) i hk hm = same_at (within_terms none each k terms) (within_terms none each m terms) i (λ c h. enough k m c (omega arith) (omega arith))

  by_its_form : (i : ℕ) → from_terms none each terms i ≡ at_term none each (from_terms none each terms) i (slice_get terms i)
  by_its_form i = enough (length terms) (suc (length terms)) i (omega arith) (omega arith)

  pub here : (i : ℕ) (t : Term) → slice_get terms i ≡ Some t → from_terms none each terms i ≡ each (from_terms none each terms) i t
  here i t e = by_its_form i ∙ ap (at_term none each (from_terms none each terms) i) e

  pub past : (i : ℕ) → length terms ≤ i → from_terms none each terms i ≡ none
  past i h = by_its_form i ∙ past_at (from_terms none each terms) i h
