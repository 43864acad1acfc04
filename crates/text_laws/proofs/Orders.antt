-- Where numbers are renamed, the order of their first occurrence stays.
use Rattle.std.proofs.Common.{◌≡◌, ℕ, ◌+◌, Bool, true, false, List, [], ◌∷◌, ◌++◌, refl, sym, ap, ◌∙◌}
use Rattle.std.specs.Prelude.{map, fold, nat_eq, not, cond, ◌||◌, if◌then◌else◌}
use Rattle.std.specs.List.{AllByRecursion, list_any, position_or_len}
use Rattle.std.proofs.lemmas.Bool.{eqb-true, eq-eqb}
use Rattle.std.proofs.lemmas.List.{map-append}
use Rattle.type_text.specs.Text.{noted, in_order}

-- P holds of what stands in two lists
pub both_hold : {A : Type 0} (P : A → Type 0) (xs ys : List A) → AllByRecursion P xs → AllByRecursion P ys → AllByRecursion P (xs ++ ys)
both_hold P [] ys h k = k
both_hold P (x ∷ xs) ys h k = (h.0, both_hold P xs ys h.1 k)

module _ (forth back : ℕ → ℕ) where
  -- one way and back leads to the same number
  abbrev pub Returns : ℕ → Type 0
  Returns x = back (forth x) ≡ x

  same_or_other : (x y : ℕ) (b c : Bool) → nat_eq x y ≡ b → nat_eq (forth x) (forth y) ≡ c → Returns x → Returns y → c ≡ b
  same_or_other x y true true p q h k = refl
  same_or_other x y false false p q h k = refl
  same_or_other x y true false p q h k = sym q ∙ eq-eqb (forth x) (forth y) (ap forth (eqb-true x y p))
  same_or_other x y false true p q h k = sym (eq-eqb x y (sym h ∙ ap back (eqb-true (forth x) (forth y) q) ∙ k)) ∙ p

  pub equal_alike : (x y : ℕ) → Returns x → Returns y → nat_eq (forth x) (forth y) ≡ nat_eq x y
  equal_alike x y h k = same_or_other x y (nat_eq x y) (nat_eq (forth x) (forth y)) refl refl h k

  any_alike : (x : ℕ) (xs : List ℕ) → Returns x → AllByRecursion Returns xs → list_any (nat_eq (forth x)) (map forth xs) ≡ list_any (nat_eq x) xs
  any_alike x [] h k = refl
  any_alike x (y ∷ xs) h k =
      ap (λ (b : Bool). b || list_any (nat_eq (forth x)) (map forth xs)) (equal_alike x y h k.0)
      ∙ ap (λ (b : Bool). nat_eq x y || b) (any_alike x xs h k.1)

  -- a number has the place that it had
  pub place_alike : (x : ℕ) (xs : List ℕ) → Returns x → AllByRecursion Returns xs → position_or_len (nat_eq (forth x)) (map forth xs) ≡ position_or_len (nat_eq x) xs
  place_alike x [] h k = refl
  place_alike x (y ∷ xs) h k =
      ap (λ (b : Bool). cond (not b) (1 + position_or_len (nat_eq (forth x)) (map forth xs)) 0) (equal_alike x y h k.0)
      ∙ ap (λ (n : ℕ). cond (not (nat_eq x y)) (1 + n) 0) (place_alike x xs h k.1)

  added_alike : (x : ℕ) (xs : List ℕ) (b c : Bool) → c ≡ b → (if c then map forth xs else map forth xs ++ forth x ∷ []) ≡ map forth (if b then xs else xs ++ x ∷ [])
  added_alike x xs true true e = refl
  added_alike x xs false false e = sym (map-append forth xs (x ∷ []))
  added_alike x xs true false e = cc
  added_alike x xs false true e = cc

  noted_alike : (xs : List ℕ) (x : ℕ) → AllByRecursion Returns xs → Returns x → noted (map forth xs) (forth x) ≡ map forth (noted xs x)
  noted_alike xs x h k = added_alike x xs (list_any (nat_eq x) xs) (list_any (nat_eq (forth x)) (map forth xs)) (any_alike x xs k h)

  chosen_returns : (b : Bool) (xs : List ℕ) (x : ℕ) → AllByRecursion Returns xs → Returns x → AllByRecursion Returns (if b then xs else xs ++ x ∷ [])
  chosen_returns true xs x h k = h
  chosen_returns false xs x h k = both_hold Returns xs (x ∷ []) h (k, tt)

  noted_returns : (xs : List ℕ) (x : ℕ) → AllByRecursion Returns xs → Returns x → AllByRecursion Returns (noted xs x)
  noted_returns xs x h k = chosen_returns (list_any (nat_eq x) xs) xs x h k

  all_alike : (xs ys : List ℕ) → AllByRecursion Returns xs → AllByRecursion Returns ys → fold noted (map forth xs) (map forth ys) ≡ map forth (fold noted xs ys)
  all_alike xs [] h k = refl
  all_alike xs (y ∷ ys) h k =
      ap (λ (zs : List ℕ). fold noted zs (map forth ys)) (noted_alike xs y h k.0)
      ∙ all_alike (noted xs y) ys (noted_returns xs y h k.0) k.1

  all_return : (xs ys : List ℕ) → AllByRecursion Returns xs → AllByRecursion Returns ys → AllByRecursion Returns (fold noted xs ys)
  all_return xs [] h k = h
  all_return xs (y ∷ ys) h k = all_return (noted xs y) ys (noted_returns xs y h k.0) k.1

  -- the order of numbers that are renamed is the renamed order
  pub order_alike : (ys : List ℕ) → AllByRecursion Returns ys → in_order (map forth ys) ≡ map forth (in_order ys)
  order_alike ys k = all_alike [] ys tt k

  pub order_returns : (ys : List ℕ) → AllByRecursion Returns ys → AllByRecursion Returns (in_order ys)
  order_returns ys k = all_return [] ys tt k
