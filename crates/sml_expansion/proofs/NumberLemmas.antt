-- The number of a text among names, found from left to right.
use Rattle.std.proofs.Common.{arith, ◌≡◌, ℕ, suc, ◌+◌, ◌<◌, ◌≤◌, ◌⊎◌, inl, inr, Bool, true, false, cond, drop, drop-cons, get_or, Option, Some, None, List, [], ◌∷◌, length, slice_get, sym, ◌∙◌, ap}
use Rattle.std.specs.List.{position_from}
use Rattle.std.proofs.lemmas.Option.{slice_get_cases}

drop_at : {X : Type 0} (xs : List X) (i : ℕ) (d : X) → i < length xs → drop i xs ≡ get_or xs i d ∷ drop (i + 1) xs
drop_at xs i d h = drop-cons xs i d h ∙ ap (λ (n : ℕ). get_or xs i d ∷ drop n xs) (let e : suc i ≡ i + 1 = omega arith in e)

drop_found : {X : Type 0} (xs : List X) (i : ℕ) (x : X) → slice_get xs i ≡ Some x → drop i xs ≡ x ∷ drop (i + 1) xs
drop_found xs i x e = go (slice_get_cases xs i).1
  where
    go : ((y : _) × (i < length xs) × (slice_get xs i ≡ Some y) × (get_or xs i y ≡ y)) ⊎ ((length xs ≤ i) × (slice_get xs i ≡ None)) → drop i xs ≡ x ∷ drop (i + 1) xs
    go (inl (y, h, q, g)) = let same : y ≡ x = cc in drop_at xs i y h ∙ ap (λ z. z ∷ drop (i + 1) xs) (g ∙ same)
    go (inr (h, q)) = absurd cc

pub position_hit : {X : Type 0} (test : X → Bool) (xs : List X) (i : ℕ) (x : X) (r : Option ℕ) → slice_get xs i ≡ Some x → test x ≡ true → position_from test i (drop i xs) ≡ r → Some i ≡ r
position_hit test xs i x r e t h = sym (ap (position_from test i) (drop_found xs i x e) ∙ ap (λ b. cond b (Some i) (position_from test (i + 1) (drop (i + 1) xs))) t) ∙ h

pub position_miss : {X : Type 0} (test : X → Bool) (xs : List X) (i : ℕ) (x : X) (r : Option ℕ) → slice_get xs i ≡ Some x → test x ≡ false → position_from test i (drop i xs) ≡ r → position_from test (i + 1) (drop (i + 1) xs) ≡ r
position_miss test xs i x r e t h = sym (ap (position_from test i) (drop_found xs i x e) ∙ ap (λ b. cond b (Some i) (position_from test (i + 1) (drop (i + 1) xs))) t) ∙ h
