-- Where names end.
use Rattle.std.proofs.Common.{◌≡◌, ℕ, zero, suc, ◌+◌, ◌-◌, ◌<◌, ◌≤◌, Bool, true, false, ltb, List, [], ◌∷◌, length, get_or, drop, refl, sym, ap, subst, ◌∙◌, arith, inl, inr, length-drop}
use Rattle.std.specs.Prelude.{◌==◌, ◌⊎◌}
use Rattle.std.specs.List.{list_any}
use Rattle.std.proofs.lemmas.Bool.{cases_lt, lt-ltb, le-ltb, eq-eqb, or_parts}
use Rattle.std.proofs.lemmas.List.{get_or-drop}
use Rattle.std.proofs.lemmas.List.Folds.{list_any_at}

abbrev is_zero : ℕ → Bool
is_zero b = b == 0

none_behind : (xs : List ℕ) (n : ℕ) → list_any is_zero xs ≡ false → list_any is_zero (drop n xs) ≡ false
none_behind xs zero h = h
none_behind [] (suc n) h = refl
none_behind (x ∷ xs) (suc n) h = none_behind xs n (or_parts (is_zero x) (list_any is_zero xs) h).1

nothing : (m : ℕ) → drop m (let none : List ℕ = [] in none) ≡ []
nothing zero = refl
nothing (suc m) = refl

drop_twice : (m n : ℕ) (xs : List ℕ) → drop m (drop n xs) ≡ drop (n + m) xs
drop_twice m zero xs = let e : m ≡ 0 + m = omega arith in ap (λ k. drop k xs) e
drop_twice m (suc n) [] = nothing m ∙ sym (nothing (suc n + m))
drop_twice m (suc n) (x ∷ xs) = let e : suc (n + m) ≡ suc n + m = omega arith in drop_twice m n xs ∙ ap (λ k. drop k (x ∷ xs)) e

-- behind the last 0 there is none, and before it there is one
pub ends_behind_zero : (names : List ℕ) (last k : ℕ) → last < length names → get_or names last 0 ≡ 0 → list_any is_zero (drop (last + 1) names) ≡ false → list_any is_zero (drop k names) ≡ ltb k (last + 1)
ends_behind_zero names last k inside is none = go (cases_lt k (last + 1))
  where
    go : (k < last + 1) ⊎ (last + 1 ≤ k) → list_any is_zero (drop k names) ≡ ltb k (last + 1)
    go (inl lt) =
        let same : k + (last - k) ≡ last = omega arith in
        let there : get_or (drop k names) (last - k) 0 ≡ 0 = get_or-drop k names (last - k) 0 ∙ ap (λ i. get_or names i 0) same ∙ is in
        let found : list_any is_zero (drop k names) ≡ true = list_any_at is_zero (drop k names) (last - k) 0 (omega (arith, length-drop k names)) (eq-eqb _ _ there) in
        found ∙ sym (lt-ltb k (last + 1) lt)
    go (inr le) =
        let there : last + 1 + (k - (last + 1)) ≡ k = omega arith in
        let moved : drop (k - (last + 1)) (drop (last + 1) names) ≡ drop k names = drop_twice (k - (last + 1)) (last + 1) names ∙ ap (λ n. drop n names) there in
        subst (λ xs. list_any is_zero xs ≡ false) moved (none_behind (drop (last + 1) names) (k - (last + 1)) none) ∙ sym (le-ltb k (last + 1) le)

-- where there is no 0, no name ends
pub ends_nowhere : (names : List ℕ) (k : ℕ) → list_any is_zero (drop 0 names) ≡ false → list_any is_zero (drop k names) ≡ ltb k 0
ends_nowhere names k none = none_behind names k none ∙ sym (le-ltb k 0 (omega arith))
