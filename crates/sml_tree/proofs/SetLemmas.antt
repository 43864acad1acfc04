-- Unions of ascending lists, step by step.
use Rattle.std.proofs.Common.{◌≡◌, ℕ, zero, suc, ◌-◌, ◌<◌, ◌≤◌, List, [], ◌∷◌, ◌++◌, length, drop, get_or, reverse, refl, sym, ap, ◌∙◌, arith, append-nil, ⊎_elim}
use Rattle.std.proofs.lemmas.Bool.Decides.{nat_tests}
use Rattle.std.proofs.lemmas.Bool.{cases_lt}
use Rattle.std.proofs.lemmas.List.{append_assoc}
use Rattle.std.proofs.lemmas.Grind.{reverse_onto}
use Rattle.std.proofs.Math.ListN.{drop_of_length-le}
use Rattle.sml_tree.specs.Sets.{union, union_over}

union_less : (x : ℕ) (xs : List ℕ) (y : ℕ) (ys : List ℕ) → x < y → union (x ∷ xs) (y ∷ ys) ≡ x ∷ union xs (y ∷ ys)
union_less x xs y ys h = grind (arith, nat_tests)

union_same : (x : ℕ) (xs : List ℕ) (y : ℕ) (ys : List ℕ) → x ≡ y → union (x ∷ xs) (y ∷ ys) ≡ x ∷ union xs ys
union_same x xs y ys h = grind (arith, nat_tests)

union_more : (x : ℕ) (xs : List ℕ) (y : ℕ) (ys : List ℕ) → y < x → union (x ∷ xs) (y ∷ ys) ≡ y ∷ union (x ∷ xs) ys
union_more x xs y ys h = grind (arith, nat_tests)

pub union_nil : (xs : List ℕ) → union xs [] ≡ xs
union_nil [] = refl
union_nil (x ∷ xs) = ap (λ zs. x ∷ zs) (union_nil xs)

-- an item and what is behind it
pub drop_down : {A : Type 0} (xs : List A) (i : ℕ) (d : A) → i < length xs → drop i xs ≡ get_or xs i d ∷ drop (suc i) xs
drop_down [] i d h = absurd (omega arith)
drop_down (x ∷ xs) zero d h = refl
drop_down (x ∷ xs) (suc i) d h = drop_down xs i d (omega arith)

-- the union over what is left of a list grows from its end
pub over_down : {A : Type 0} (F : A → List ℕ) (xs : List A) (i : ℕ) (d : A) → i < length xs → union_over F (drop i xs) ≡ union (F (get_or xs i d)) (union_over F (drop (suc i) xs))
over_down F xs i d h = ap (union_over F) (drop_down xs i d h)

pub over_step : {A : Type 0} (F : A → List ℕ) (xs : List A) (i : ℕ) (d : A) (set x was now : List ℕ) → 0 < i → i ≤ length xs → now ≡ union x was → x ≡ F (get_or xs (i - 1) d) → was ≡ set → set ≡ union_over F (drop i xs) → now ≡ union_over F (drop (i - 1) xs)
over_step F xs i d set x was now pos le e ex ew es =
    let here : suc (i - 1) ≡ i = omega arith in
    e
    ∙ ap (λ z. union z was) ex
    ∙ ap (union (F (get_or xs (i - 1) d))) (ew ∙ es ∙ ap (λ k. union_over F (drop k xs)) (sym here))
    ∙ sym (over_down F xs (i - 1) d (omega arith))

-- one more member was joined
module _ (out xs ys all : List ℕ) (i j : ℕ) (hi : i < length xs) (hj : j < length ys) (done : out ++ union (drop i xs) (drop j ys) ≡ all) where
  heads : union (drop i xs) (drop j ys) ≡ union (get_or xs i 0 ∷ drop (suc i) xs) (get_or ys j 0 ∷ drop (suc j) ys)
  heads =
      ap (λ zs. union zs (drop j ys)) (drop_down xs i 0 hi) ∙ ap (union (get_or xs i 0 ∷ drop (suc i) xs)) (drop_down ys j 0 hj)

  joined : (z : ℕ) (rest : List ℕ) → union (drop i xs) (drop j ys) ≡ z ∷ rest → (out ++ z ∷ []) ++ rest ≡ all
  joined z rest e = append_assoc out (z ∷ []) rest ∙ ap (λ zs. out ++ zs) (sym e) ∙ done

  pub join_left : get_or xs i 0 < get_or ys j 0 → (out ++ get_or xs i 0 ∷ []) ++ union (drop (suc i) xs) (drop j ys) ≡ all
  join_left h =
      joined (get_or xs i 0) (union (drop (suc i) xs) (drop j ys)) (heads ∙ union_less (get_or xs i 0) (drop (suc i) xs) (get_or ys j 0) (drop (suc j) ys) h ∙ ap (λ zs. get_or xs i 0 ∷ union (drop (suc i) xs) zs) (sym (drop_down ys j 0 hj)))

  pub join_right : get_or ys j 0 < get_or xs i 0 → (out ++ get_or ys j 0 ∷ []) ++ union (drop i xs) (drop (suc j) ys) ≡ all
  join_right h =
      joined (get_or ys j 0) (union (drop i xs) (drop (suc j) ys)) (heads ∙ union_more (get_or xs i 0) (drop (suc i) xs) (get_or ys j 0) (drop (suc j) ys) h ∙ ap (λ zs. get_or ys j 0 ∷ union zs (drop (suc j) ys)) (sym (drop_down xs i 0 hi)))

  pub join_same : get_or xs i 0 ≡ get_or ys j 0 → (out ++ get_or xs i 0 ∷ []) ++ union (drop (suc i) xs) (drop (suc j) ys) ≡ all
  join_same h =
      joined (get_or xs i 0) (union (drop (suc i) xs) (drop (suc j) ys)) (heads ∙ union_same (get_or xs i 0) (drop (suc i) xs) (get_or ys j 0) (drop (suc j) ys) h)

pub join_end : (out xs ys all : List ℕ) (i j : ℕ) → (i < length xs → j < length ys → ⊥) → out ++ union (drop i xs) (drop j ys) ≡ all → (out ++ drop i xs) ++ drop j ys ≡ all
join_end out xs ys all i j past done = ⊎_elim at_left at_right (cases_lt i (length xs))
  where
    at_left : i < length xs → (out ++ drop i xs) ++ drop j ys ≡ all
    at_left h =
        let e : drop j ys ≡ [] = ⊎_elim (λ g. absurd (past h g)) (λ g. drop_of_length-le ys g) (cases_lt j (length ys)) in
        append_assoc out (drop i xs) (drop j ys) ∙ ap (λ zs. out ++ (drop i xs ++ zs)) e ∙ ap (λ zs. out ++ zs) (append-nil (drop i xs) ∙ sym (union_nil (drop i xs)) ∙ ap (union (drop i xs)) (sym e)) ∙ done

    at_right : length xs ≤ i → (out ++ drop i xs) ++ drop j ys ≡ all
    at_right h =
        let e : drop i xs ≡ [] = drop_of_length-le xs h in
        append_assoc out (drop i xs) (drop j ys) ∙ ap (λ zs. out ++ (zs ++ drop j ys)) e ∙ ap (λ zs. out ++ union zs (drop j ys)) (sym e) ∙ done

-- a stack with one more item, where items stand on it with the first one last
pub push_down : {B : Type 0} (old now : List B) (p : B) (ps : List B) → now ≡ old ++ reverse ps → now ++ p ∷ [] ≡ old ++ reverse (p ∷ ps)
push_down old now p ps e =
    ap (λ zs. zs ++ p ∷ []) e ∙ append_assoc old (reverse ps) (p ∷ []) ∙ ap (λ zs. old ++ zs) (sym (reverse_onto ps p []))
