-- What is defined from the terms of a program up holds of a term by its parts.
use Rattle.std.proofs.Common.{◌≡◌, ℕ, zero, suc, ◌+◌, ◌<◌, ◌≤◌, List, [], ◌∷◌, Option, Some, None, length, refl, sym, ap, ◌∙◌, arith}
use Rattle.std.specs.Prelude.{slice_get}
use Rattle.std.specs.List.{AllByRecursion}
use Rattle.std.proofs.lemmas.Option.{slice_get_past}
use Rattle.lambda_ir.specs.declared.term.Term.{Term}
use Rattle.lambda_ir.specs.Free.{at_term, within_terms, from_terms}
use Rattle.lambda_ir.specs.Kept.{term_parts}
use Rattle.convert_laws.specs.Facts.{AreNumbered}

-- each item has the one fact, where each has the other
pub all_map : {A : Type 0} {P Q : A → Type 0} → ((x : A) → P x → Q x) → (xs : List A) → AllByRecursion P xs → AllByRecursion Q xs
all_map f [] h = tt
all_map f (x ∷ xs) h = (f x h.0, all_map f xs h.1)

-- what is made of a term goes by what is made of its parts
abbrev pub GoesByParts : {A : Type 0} → ((ℕ → A) → Term → A) → Type 0
GoesByParts {A} each =
    (f g : ℕ → A) (t : Term) → AllByRecursion (λ c. f c ≡ g c) (term_parts t) → each f t ≡ each g t

module _ {A : Type 0} (none : A) (each : (ℕ → A) → Term → A) (by_parts : GoesByParts each) (terms : List Term) (numbered : AreNumbered terms) where
  past : (f : ℕ → A) (i : ℕ) → length terms ≤ i → at_term none (λ part i. each part) f i (slice_get terms i) ≡ none
  past f i h = ap (at_term none (λ part i. each part) f i) (slice_get_past terms i h)

  same_at : (f g : ℕ → A) (i : ℕ) → ((c : ℕ) → i < c → f c ≡ g c) → at_term none (λ part i. each part) f i (slice_get terms i) ≡ at_term none (λ part i. each part) g i (slice_get terms i)
  same_at f g i same = go (slice_get terms i) refl
    where
      go : (o : Option Term) → slice_get terms i ≡ o → at_term none (λ part i. each part) f i o ≡ at_term none (λ part i. each part) g i o
      go None e = refl
      go (Some t) e = by_parts f g t (all_map (λ c h. same c h.0) (term_parts t) (numbered i t e))

  pub enough : (k m i : ℕ) → length terms ≤ k + i → length terms ≤ m + i → within_terms none (λ part i. each part) k terms i ≡ within_terms none (λ part i. each part) m terms i
  enough zero zero i hk hm = refl
  enough zero (suc m) i hk hm = sym (past (within_terms none (λ part i. each part) m terms) i (omega arith))
  enough (suc k) zero i hk hm = past (within_terms none (λ part i. each part) k terms) i (omega arith)
  enough (suc k) (suc m) i hk hm =
      same_at (within_terms none (λ part i. each part) k terms) (within_terms none (λ part i. each part) m terms) i (λ c h. enough k m c (omega arith) (omega arith))

  pub by_its_parts : (i : ℕ) → from_terms none (λ part i. each part) terms i ≡ at_term none (λ part i. each part) (from_terms none (λ part i. each part) terms) i (slice_get terms i)
  by_its_parts i = enough (length terms) (suc (length terms)) i (omega arith) (omega arith)

  pub unfold_at : (i : ℕ) (t : Term) → slice_get terms i ≡ Some t → from_terms none (λ part i. each part) terms i ≡ each (from_terms none (λ part i. each part) terms) t
  unfold_at i t e = by_its_parts i ∙ ap (at_term none (λ part i. each part) (from_terms none (λ part i. each part) terms) i) e

  pub past_none : (i : ℕ) → length terms ≤ i → from_terms none (λ part i. each part) terms i ≡ none
  past_none i h = by_its_parts i ∙ past (from_terms none (λ part i. each part) terms) i h
