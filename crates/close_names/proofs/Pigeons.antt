-- As many distinct numbers below a bound are all of them.
use Rattle.std.proofs.Common.{◌≡◌, ℕ, zero, suc, ◌<◌, ◌≤◌, Bool, true, false, cond, List, [], ◌∷◌, length, refl, sym, ap, ◌∙◌, arith, subst, nat_eq}
use Rattle.std.specs.Prelude.{◌||◌}
use Rattle.std.specs.List.{AllByRecursion}
use Rattle.std.proofs.lemmas.Bool.{eq-eqb, eqb-true}
use Rattle.sml_tree.specs.Sets.{has}
use Rattle.sml_tree.specs.IsBare.{IsDistinct}

or_none : (a b : Bool) → (a || b) ≡ false → (a ≡ false) × (b ≡ false)
or_none true b h = cc
or_none false b h = (refl, h)

without : ℕ → List ℕ → List ℕ
without n [] = []
without n (x ∷ xs) = cond (nat_eq x n) (without n xs) (x ∷ without n xs)

has_one : (n x y : ℕ) (xs : List ℕ) (b : Bool) → nat_eq y x ≡ false → has (without n xs) y ≡ false → has (cond b (without n xs) (x ∷ without n xs)) y ≡ false
has_one n x y xs true a r = r
has_one n x y xs false a r = ap (λ w. w || has (without n xs) y) a ∙ r

has_without : (n y : ℕ) (xs : List ℕ) → has xs y ≡ false → has (without n xs) y ≡ false
unfolding without
has_without n y [] h = refl
has_without n y (x ∷ xs) h =
    let p = or_none (nat_eq y x) (has xs y) h in has_one n x y xs (nat_eq x n) p.0 (has_without n y xs p.1)

distinct_one : (n x : ℕ) (xs : List ℕ) (b : Bool) → has (without n xs) x ≡ false → IsDistinct (without n xs) → IsDistinct (cond b (without n xs) (x ∷ without n xs))
distinct_one n x xs true h r = r
distinct_one n x xs false h r = (h, r)

distinct_without : (n : ℕ) (xs : List ℕ) → IsDistinct xs → IsDistinct (without n xs)
unfolding without
distinct_without n [] h = tt
distinct_without n (x ∷ xs) h = distinct_one n x xs (nat_eq x n) (has_without n x xs h.0) (distinct_without n xs h.1)

below_one : (n x : ℕ) (xs : List ℕ) (b : Bool) → nat_eq x n ≡ b → x < suc n → AllByRecursion (λ y. y < n) (without n xs) → AllByRecursion (λ y. y < n) (cond b (without n xs) (x ∷ without n xs))
below_one n x xs true e l r = r
below_one n x xs false e l r = (let other : x ≡ n → ⊥ = λ q. let z : true ≡ false = sym (eq-eqb x n q) ∙ e in cc in omega (arith, other), r)

below_without : (n : ℕ) (xs : List ℕ) → AllByRecursion (λ x. x < suc n) xs → AllByRecursion (λ x. x < n) (without n xs)
unfolding without
below_without n [] h = tt
below_without n (x ∷ xs) h = below_one n x xs (nat_eq x n) refl h.0 (below_without n xs h.1)

gone_one : (n x : ℕ) (xs : List ℕ) (b : Bool) → nat_eq x n ≡ b → nat_eq n x ≡ false → without n xs ≡ xs → cond b (without n xs) (x ∷ without n xs) ≡ x ∷ xs
gone_one n x xs true e p r = let z : true ≡ false = sym (eq-eqb n x (sym (eqb-true x n e))) ∙ p in cc
gone_one n x xs false e p r = ap (λ ys. x ∷ ys) r

none_gone : (n : ℕ) (xs : List ℕ) → has xs n ≡ false → without n xs ≡ xs
unfolding without
none_gone n [] h = refl
none_gone n (x ∷ xs) h =
    let p = or_none (nat_eq n x) (has xs n) h in gone_one n x xs (nat_eq x n) refl p.0 (none_gone n xs p.1)

count_one : (n x : ℕ) (xs : List ℕ) (b : Bool) → nat_eq x n ≡ b → has xs x ≡ false → length xs ≤ suc (length (without n xs)) → suc (length xs) ≤ suc (length (cond b (without n xs) (x ∷ without n xs)))
count_one n x xs true e h r =
    let same = ap length (none_gone n xs (subst (λ y. has xs y ≡ false) (eqb-true x n e) h)) in omega arith
count_one n x xs false e h r = omega arith

one_gone : (n : ℕ) (xs : List ℕ) → IsDistinct xs → length xs ≤ suc (length (without n xs))
unfolding without
one_gone n [] h = omega arith
one_gone n (x ∷ xs) h = count_one n x xs (nat_eq x n) refl h.0 (one_gone n xs h.1)

-- distinct numbers below n are n at most
few : (n : ℕ) (xs : List ℕ) → IsDistinct xs → AllByRecursion (λ x. x < n) xs → length xs ≤ n
few zero [] d b = omega arith
few zero (x ∷ xs) d b = let l = b.0 in absurd (omega arith)
few (suc n) xs d b =
    let r = few n (without n xs) (distinct_without n xs d) (below_without n xs b) in let o = one_gone n xs d in omega arith

-- as many distinct numbers below n are all of them
pub all_there : (n : ℕ) (xs : List ℕ) (s : ℕ) → IsDistinct xs → AllByRecursion (λ x. x < n) xs → length xs ≡ n → s < n → has xs s ≡ true
all_there n xs s d b c l = by (has xs s) refl
  where
    by : (w : Bool) → has xs s ≡ w → has xs s ≡ true
    by true e = e
    by false e = let r = few n (s ∷ xs) (e, d) (l, b) in absurd (omega arith)
