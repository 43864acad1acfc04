-- The function that a term is, term by term.
use Rattle.std.proofs.Common.{◌≡◌, ◌⊎◌, inl, inr, ℕ, zero, suc, ◌<◌, ◌≤◌, List, Option, Some, None, length, get_or, refl, sym, ap, ◌∙◌, arith}
use Rattle.std.specs.Prelude.{slice_get, option_map}
use Rattle.lambda_ir.specs.declared.term.Case.{Case}
use Rattle.lambda_ir.specs.declared.term.Term.{Term}
use Rattle.lambda_ir.specs.declared.term.Term.TheVariants as term
use Rattle.lambda_ir.specs.Free.{at_term, within_terms, function_of_term, function_at}
use Rattle.convert_laws.specs.Facts.{AreNumbered}
use Rattle.std.proofs.lemmas.Option.{slice_get_cases}
use Rattle.convert_steps.specs.Codes.{cases_in, cases_at}
use Rattle.convert_unfold.specs.Law.{Finds}
use Rattle.convert_unfold.proofs.Named.{finds}
use Rattle.convert_groups.specs.Groups.{function_number, inner_of, stands_for, number_of, own_number}

-- a term that is no function, and stands for none
pub record IsOther (t : Term) : Type 0 where
  pub none : (f : ℕ → Option (ℕ × List Case)) (i : ℕ) → function_of_term f i t ≡ None
  pub inner : inner_of (Some t) ≡ None
  pub number : (i : ℕ) → number_of i (Some t) ≡ None

pub data View : Term → Type 0 where
  same : (e : ℕ) → View (term.Same e)
  function : (cases : List Case) → View (term.Fn cases)
  other : (t : Term) → IsOther t → View t

view : (t : Term) → View t
view (term.Same e) = same e
view (term.Fn cases) = function cases
view (term.Int z) = other (term.Int z) (record { none = λ f i. refl; inner = refl; number = λ i. refl })
view (term.Char c) = other (term.Char c) (record { none = λ f i. refl; inner = refl; number = λ i. refl })
view (term.Text t) = other (term.Text t) (record { none = λ f i. refl; inner = refl; number = λ i. refl })
view (term.Var x) = other (term.Var x) (record { none = λ f i. refl; inner = refl; number = λ i. refl })
view (term.Constructor c) = other (term.Constructor c) (record { none = λ f i. refl; inner = refl; number = λ i. refl })
view (term.Builtin p) = other (term.Builtin p) (record { none = λ f i. refl; inner = refl; number = λ i. refl })
view (term.Tuple ps) = other (term.Tuple ps) (record { none = λ f i. refl; inner = refl; number = λ i. refl })
view (term.App f a) = other (term.App f a) (record { none = λ g i. refl; inner = refl; number = λ i. refl })
view (term.Match e cs) = other (term.Match e cs) (record { none = λ f i. refl; inner = refl; number = λ i. refl })
view (term.Raise e) = other (term.Raise e) (record { none = λ f i. refl; inner = refl; number = λ i. refl })
view (term.Handle e cs) = other (term.Handle e cs) (record { none = λ f i. refl; inner = refl; number = λ i. refl })
view (term.Let d e) = other (term.Let d e) (record { none = λ f i. refl; inner = refl; number = λ i. refl })
view term.Finish = other term.Finish (record { none = λ f i. refl; inner = refl; number = λ i. refl })
view (term.Binds bs) = other (term.Binds bs) (record { none = λ f i. refl; inner = refl; number = λ i. refl })
view (term.Group bs) = other (term.Group bs) (record { none = λ f i. refl; inner = refl; number = λ i. refl })
view (term.NewExn x) = other (term.NewExn x) (record { none = λ f i. refl; inner = refl; number = λ i. refl })
view (term.SameExn x c) = other (term.SameExn x c) (record { none = λ f i. refl; inner = refl; number = λ i. refl })
view term.Nothing = other term.Nothing (record { none = λ f i. refl; inner = refl; number = λ i. refl })
view term.Gone = other term.Gone (record { none = λ f i. refl; inner = refl; number = λ i. refl })

some_is : (p q : ℕ × List Case) → Some p ≡ Some q → p ≡ q
some_is p q e = cc

pub no_some : {A : Type 0} (o : Option A) (x : A) → o ≡ None → o ≡ Some x → ⊥
no_some o x e f = let g : None ≡ Some x = sym e ∙ f in cc

module _ (terms : List Term) (numbered : AreNumbered terms) where
  found : Finds terms
  found = finds terms numbered

  -- on to the term that stands in its place
  pub goes_in : (i j : ℕ) → stands_for terms i ≡ Some j → (function_number terms i ≡ function_number terms j) × (i < j) × (j < length terms)
  goes_in i j e = go (slice_get terms i) refl
    where
      by_view : (t : Term) → View t → slice_get terms i ≡ Some t → (function_number terms i ≡ function_number terms j) × (i < j) × (j < length terms)
      by_view _ (same k) h =
          let is : Some k ≡ Some j = sym (ap inner_of h) ∙ e in
          let here : k ≡ j = cc in
          let b = (numbered i (term.Same k) h).0 in
          (ap (option_map (λ f. f.0)) (found.here i (term.Same k) h) ∙ ap (function_number terms) here, omega (arith, here, b.0), omega (arith, here, b.1))
      by_view _ (function cases) h = absurd (no_some (stands_for terms i) j (ap inner_of h) e)
      by_view _ (other t o) h = absurd (no_some (stands_for terms i) j (ap inner_of h ∙ o.inner) e)

      go : (o : Option Term) → slice_get terms i ≡ o → (function_number terms i ≡ function_number terms j) × (i < j) × (j < length terms)
      go None h = absurd (no_some (stands_for terms i) j (ap inner_of h) e)
      go (Some t) h = by_view t (view t) h

  pub ends : (i : ℕ) → stands_for terms i ≡ None → function_number terms i ≡ own_number terms i
  ends i e = go (slice_get_cases terms i).1
    where
      by_view : (t : Term) → View t → slice_get terms i ≡ Some t → function_number terms i ≡ own_number terms i
      by_view _ (same k) h = absurd (no_some (stands_for terms i) k e (ap inner_of h))
      by_view _ (function cases) h = ap (option_map (λ f. f.0)) (found.here i (term.Fn cases) h) ∙ sym (ap (number_of i) h)
      by_view _ (other t o) h = ap (option_map (λ f. f.0)) (found.here i t h ∙ o.none (function_at terms) i) ∙ sym (ap (number_of i) h ∙ o.number i)

      go : ((t : Term) × (i < length terms) × (slice_get terms i ≡ Some t) × (get_or terms i t ≡ t)) ⊎ ((length terms ≤ i) × (slice_get terms i ≡ None)) → function_number terms i ≡ own_number terms i
      go (inl h) = by_view h.0 (view h.0) h.2
      go (inr h) = ap (option_map (λ f. f.0)) (found.past i h.0) ∙ sym (ap (number_of i) h.1)

  -- it is there, with its rules
  function_there : (k j x : ℕ) (cases : List Case) → within_terms None function_of_term k terms j ≡ Some (x, cases) → slice_get terms x ≡ Some (term.Fn cases)
  function_there zero j x cases e = absurd (cc)
  function_there (suc k) j x cases e = go (λ y. function_there k y x cases) (slice_get terms j) refl e
    where
      by_view : ((y : ℕ) → within_terms None function_of_term k terms y ≡ Some (x, cases) → slice_get terms x ≡ Some (term.Fn cases)) → (t : Term) → View t → slice_get terms j ≡ Some t → function_of_term (within_terms None function_of_term k terms) j t ≡ Some (x, cases) → slice_get terms x ≡ Some (term.Fn cases)
      by_view again _ (same y) h d = again y d
      by_view again _ (function others) h d =
          let is = some_is (j, others) (x, cases) d in
          sym (ap (λ (p : ℕ × List Case). slice_get terms p.0) is) ∙ h ∙ ap (λ (p : ℕ × List Case). Some (term.Fn p.1)) is
      by_view again _ (other t o) h d = absurd (no_some (function_of_term (within_terms None function_of_term k terms) j t) (x, cases) (o.none (within_terms None function_of_term k terms) j) d)

      go : ((y : ℕ) → within_terms None function_of_term k terms y ≡ Some (x, cases) → slice_get terms x ≡ Some (term.Fn cases)) → (o : Option Term) → slice_get terms j ≡ o → at_term None function_of_term (within_terms None function_of_term k terms) j o ≡ Some (x, cases) → slice_get terms x ≡ Some (term.Fn cases)
      go again None q d = absurd (cc)
      go again (Some t) q d = by_view again t (view t) q d

  pub with_cases : (j x : ℕ) → function_number terms j ≡ Some x → function_at terms j ≡ Some (x, cases_at terms x)
  with_cases j x e = go (function_at terms j) refl
    where
      go : (o : Option (ℕ × List Case)) → function_at terms j ≡ o → function_at terms j ≡ Some (x, cases_at terms x)
      go None h = absurd (no_some (function_number terms j) x (ap (option_map (λ f. f.0)) h) e)
      go (Some p) h =
          let is : Some p.0 ≡ Some x = sym (ap (option_map (λ f. f.0)) h) ∙ e in
          let here : p.0 ≡ x = cc in
          h ∙ ap (λ (cs : List Case). Some (p.0, cs)) (sym (ap cases_in (function_there (length terms) j p.0 p.1 h))) ∙ ap (λ (k : ℕ). Some (k, cases_at terms k)) here
