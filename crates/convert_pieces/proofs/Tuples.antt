-- The items of slots.
use Rattle.std.proofs.Common.{◌≡◌, ℕ, zero, suc, ◌+◌, ◌≤◌, Bool, true, false, List, [], ◌∷◌, ◌++◌, Option, Some, None, cond, nat_eq, length, drop, filter_map, refl, sym, ap, ◌∙◌, arith, append_assoc, drop-cons, get_or, eqb-true, ◌<◌}
use Rattle.std.specs.List.{cons_option}
use Rattle.sml_def.specs.Step.{count_up}
use Rattle.lambda_ir.specs.declared.term.Part.{Part}
use Rattle.convert_laws.specs.Convert.{item_of}

no_items : {X : Type 0} (parts : List Part) (s : ℕ) → None ≡ item_of {X = X} parts [] s
no_items [] s = refl
no_items (q ∷ parts) s = refl

pub none_left : {X : Type 0} (parts : List Part) (xs : List X) (at s : ℕ) → length xs ≤ at → None ≡ item_of (drop at parts) (drop at xs) s
none_left parts [] zero s h = no_items parts s
none_left parts [] (suc at) s h = no_items (drop (suc at) parts) s
none_left parts (x ∷ xs) zero s h = absurd (omega (arith, h))
none_left [] (x ∷ xs) (suc at) s h = refl
none_left (p ∷ parts) (x ∷ xs) (suc at) s h = none_left parts xs at s (omega (arith, h))

neqb : (a b : ℕ) → (a ≡ b → ⊥) → nat_eq a b ≡ false
neqb a b n = by (nat_eq a b) refl
  where
    by : (c : Bool) → nat_eq a b ≡ c → nat_eq a b ≡ false
    by true e = absurd (n (eqb-true a b e))
    by false e = e

pub passed_slot : {X : Type 0} (parts : List Part) (xs : List X) (at j s : ℕ) (q : Part) (x : X) → at < length parts → at < length xs → j ≡ at + 1 → (s ≡ (get_or parts at q).slot → ⊥) → item_of (drop at parts) (drop at xs) s ≡ item_of (drop j parts) (drop j xs) s
passed_slot parts xs at j s q x h g ej other =
    let up : suc at ≡ j = omega (arith, ej) in
    ap (λ ps. item_of ps (drop at xs) s) (drop-cons parts at q h)
    ∙ ap (λ ys. item_of (get_or parts at q ∷ drop (suc at) parts) ys s) (drop-cons xs at x g)
    ∙ ap (λ b. cond b (Some (get_or xs at x)) (item_of (drop (suc at) parts) (drop (suc at) xs) s)) (neqb s (get_or parts at q).slot other)
    ∙ ap (λ k. item_of (drop k parts) (drop k xs) s) up

pub found_one : {X : Type 0} (f : ℕ → Option X) (found more : List X) (s t k : ℕ) (x : X) (whole : List X) → f s ≡ Some x → more ≡ found ++ x ∷ [] → t ≡ s + 1 → found ++ filter_map f (count_up s (suc k)) ≡ whole → more ++ filter_map f (count_up t k) ≡ whole
found_one f found more s t k x whole here em et e =
    let up : t ≡ suc s = omega (arith, et) in
    ap (λ ys. ys ++ filter_map f (count_up t k)) em
    ∙ ap (λ u. (found ++ x ∷ []) ++ filter_map f (count_up u k)) up
    ∙ append_assoc found (x ∷ []) (filter_map f (count_up (suc s) k))
    ∙ ap (λ o. found ++ cons_option o (filter_map f (count_up (suc s) k))) (sym here)
    ∙ e

pub passed_one : {X : Type 0} (f : ℕ → Option X) (found : List X) (s t k : ℕ) (whole : List X) → f s ≡ None → t ≡ s + 1 → found ++ filter_map f (count_up s (suc k)) ≡ whole → found ++ filter_map f (count_up t k) ≡ whole
passed_one f found s t k whole here et e =
    let up : t ≡ suc s = omega (arith, et) in
    ap (λ u. found ++ filter_map f (count_up u k)) up ∙ ap (λ o. found ++ cons_option o (filter_map f (count_up (suc s) k))) (sym here) ∙ e
