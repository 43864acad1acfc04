-- Runs of a class of bytes.
use Rattle.std.proofs.Common.{◌≡◌, ℕ, zero, suc, ◌+◌, ◌≤◌, Bool, true, false, List, [], ◌∷◌, ◌++◌, length, take, drop, refl, sym, ap, ◌∙◌, arith, ◌⊎◌, inl, inr}
use Rattle.std.specs.List.{prefix_len, list_all}
use Rattle.std.proofs.lemmas.Bool.{and_parts, and_from, cond-true, cond-false, cases_Bool}

module _ (p : ℕ → Bool) where
  -- a run goes on behind bytes of the class
  pub run-append : (s t : List ℕ) → list_all p s ≡ true → prefix_len p (s ++ t) ≡ length s + prefix_len p t
  run-append [] t h = omega arith
  run-append (c ∷ s) t h =
      let (hc, hs) = and_parts (p c) (list_all p s) h in
      cond-true _ _ _ hc ∙ ap (λ n. 1 + n) (run-append s t hs) ∙ (omega arith)

  -- and stops before another byte
  pub run_stop : (c : ℕ) (t : List ℕ) → p c ≡ false → prefix_len p (c ∷ t) ≡ 0
  run_stop c t h = cond-false _ _ _ h

  pub run_whole : (s : List ℕ) (c : ℕ) (t : List ℕ) → list_all p s ≡ true → p c ≡ false → prefix_len p (s ++ c ∷ t) ≡ length s
  run_whole s c t h n = run-append s (c ∷ t) h ∙ ap (λ k. length s + k) (run_stop c t n) ∙ (omega arith)

  pub run_all : (s : List ℕ) → list_all p s ≡ true → prefix_len p s ≡ length s
  run_all [] h = refl
  run_all (c ∷ s) h =
      let (hc, hs) = and_parts (p c) (list_all p s) h in
      cond-true _ _ _ hc ∙ ap (λ n. 1 + n) (run_all s hs) ∙ (omega arith)

  front_step : (n c : ℕ) (s : List ℕ) → suc n ≤ prefix_len p (c ∷ s) → (n ≤ prefix_len p s → list_all p (take n s) ≡ true) → (p c ≡ true) ⊎ (p c ≡ false) → list_all p (take (suc n) (c ∷ s)) ≡ true
  front_step n c s h ih (inl e) = and_from _ _ e (ih (let k : prefix_len p (c ∷ s) ≡ 1 + prefix_len p s = cond-true _ _ _ e in omega arith))
  front_step n c s h ih (inr e) = absurd (let k : prefix_len p (c ∷ s) ≡ 0 = cond-false _ _ _ e in omega arith)

  -- a front of a run is of the class
  pub run_front : (n : ℕ) (s : List ℕ) → n ≤ prefix_len p s → list_all p (take n s) ≡ true
  run_front zero s h = refl
  run_front (suc n) [] h = refl
  run_front (suc n) (c ∷ s) h = front_step n c s h (λ k. run_front n s k) (cases_Bool (p c))

  pub run_take : (s : List ℕ) → list_all p (take (prefix_len p s) s) ≡ true
  run_take s = run_front (prefix_len p s) s (omega arith)

  next_step : (d : ℕ) (s : List ℕ) (c : ℕ) (t : List ℕ) → drop (prefix_len p (d ∷ s)) (d ∷ s) ≡ c ∷ t → (drop (prefix_len p s) s ≡ c ∷ t → p c ≡ false) → (p d ≡ true) ⊎ (p d ≡ false) → p c ≡ false
  next_step d s c t e ih (inl h) = ih (ap (λ n. drop n (d ∷ s)) (let k : suc (prefix_len p s) ≡ prefix_len p (d ∷ s) = sym (cond-true _ _ _ h ∙ (omega arith)) in k) ∙ e)
  next_step d s c t e ih (inr h) = let k : d ∷ s ≡ c ∷ t = ap (λ n. drop n (d ∷ s)) (sym (run_stop d s h)) ∙ e in let same : d ≡ c = cc in ap p (sym same) ∙ h

  -- what follows a run isn't of the class
  pub run_next : (s : List ℕ) (c : ℕ) (t : List ℕ) → drop (prefix_len p s) s ≡ c ∷ t → p c ≡ false
  run_next [] c t e = cc
  run_next (d ∷ s) c t e = next_step d s c t e (λ k. run_next s c t k) (cases_Bool (p d))
