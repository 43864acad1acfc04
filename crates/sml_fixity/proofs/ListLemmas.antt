-- Lists read from left to right, and stacks whose top is last.
use Rattle.std.proofs.Common.{arith, ◌≡◌, ℕ, suc, ◌+◌, ◌-◌, ◌<◌, ◌≤◌, ◌++◌, ◌⊎◌, inl, inr, Bool, true, false, cond, nat_lt, take, drop, drop-cons, get_or, reverse, Option, Some, None, List, [], ◌∷◌, length, slice_get, refl, sym, ◌∙◌, ap}
use Rattle.std.specs.List.{position_from}
use Rattle.std.proofs.Math.ListN.{drop_of_length-le}
use Rattle.std.proofs.Math.Seq.{drop-append_seam, take-append_seam}
use Rattle.std.proofs.lemmas.Bool.Decides.{nat_tests}
use Rattle.std.proofs.lemmas.List.{length-reverse, length-drop, reverse-append, take-append-drop, take_all}
use Rattle.std.proofs.lemmas.Option.{slice_get_cases}

pub drop_at : {X : Type 0} (xs : List X) (i : ℕ) (d : X) → i < length xs → drop i xs ≡ get_or xs i d ∷ drop (i + 1) xs
drop_at xs i d h = drop-cons xs i d h ∙ ap (λ (n : ℕ). get_or xs i d ∷ drop n xs) (let e : suc i ≡ i + 1 = omega arith in e)

drop_found : {X : Type 0} (xs : List X) (i : ℕ) (x : X) → slice_get xs i ≡ Some x → drop i xs ≡ x ∷ drop (i + 1) xs
drop_found xs i x e = go (slice_get_cases xs i).1
  where
    go : ((y : _) × (i < length xs) × (slice_get xs i ≡ Some y) × (get_or xs i y ≡ y)) ⊎ ((length xs ≤ i) × (slice_get xs i ≡ None)) → drop i xs ≡ x ∷ drop (i + 1) xs
    go (inl (y, h, q, g)) = let same : y ≡ x = cc in drop_at xs i y h ∙ ap (λ z. z ∷ drop (i + 1) xs) (g ∙ same)
    go (inr (h, q)) = absurd cc

pub position_hit : {X : Type 0} (test : X → Bool) (xs : List X) (i : ℕ) (x : X) (r : Option ℕ) → slice_get xs i ≡ Some x → test x ≡ true → position_from test i (drop i xs) ≡ r → Some i ≡ r
position_hit test xs i x r e t h = sym (ap (position_from test i) (drop_found xs i x e) ∙ ap (λ b. cond b (Some i) (position_from test (i + 1) (drop (i + 1) xs))) t) ∙ h

pub position_miss : {X : Type 0} (test : X → Bool) (xs : List X) (i : ℕ) (x : X) (r : Option ℕ) → slice_get xs i ≡ Some x → test x ≡ false → position_from test i (drop i xs) ≡ r → position_from test (i + 1) (drop (i + 1) xs) ≡ r
position_miss test xs i x r e t h = sym (ap (position_from test i) (drop_found xs i x e) ∙ ap (λ b. cond b (Some i) (position_from test (i + 1) (drop (i + 1) xs))) t) ∙ h

-- the last n items, the last first, and what stands below them

parted : {X : Type 0} (n : ℕ) (xs : List X) → reverse xs ≡ reverse (drop (length xs - n) xs) ++ reverse (take (length xs - n) xs)
parted n xs = ap reverse (sym (take-append-drop (length xs - n) xs)) ∙ reverse-append (take (length xs - n) xs) (drop (length xs - n) xs)

top_length : {X : Type 0} (n : ℕ) (xs : List X) → n ≤ length xs → length (reverse (drop (length xs - n) xs)) ≡ n
top_length n xs h = length-reverse (drop (length xs - n) xs) ∙ length-drop (length xs - n) xs ∙ (omega arith)

none_below : {X : Type 0} (n : ℕ) (xs : List X) → length xs ≤ n → reverse (take (length xs - n) xs) ≡ []
none_below n xs h = ap (λ (k : ℕ). reverse (take k xs)) (let e : length xs - n ≡ 0 = omega arith in e)

pub drop_top : {X : Type 0} (n : ℕ) (xs : List X) → drop n (reverse xs) ≡ reverse (take (length xs - n) xs)
drop_top n xs = go (nat_lt (length xs) n) refl
  where
    go : (b : Bool) → nat_lt (length xs) n ≡ b → drop n (reverse xs) ≡ reverse (take (length xs - n) xs)
    go true e = let h : length xs ≤ n = grind (arith, nat_tests) in drop_of_length-le (reverse xs) (let l = length-reverse xs in omega (arith, l, h)) ∙ sym (none_below n xs h)
    go false e = let h : n ≤ length xs = grind (arith, nat_tests) in
        ap (drop n) (parted n xs)
        ∙ ap (λ (k : ℕ). drop k (reverse (drop (length xs - n) xs) ++ reverse (take (length xs - n) xs))) (sym (top_length n xs h))
        ∙ drop-append_seam (reverse (drop (length xs - n) xs)) (reverse (take (length xs - n) xs))

pub take_top : {X : Type 0} (n : ℕ) (xs : List X) → take n (reverse xs) ≡ reverse (drop (length xs - n) xs)
take_top n xs = go (nat_lt (length xs) n) refl
  where
    go : (b : Bool) → nat_lt (length xs) n ≡ b → take n (reverse xs) ≡ reverse (drop (length xs - n) xs)
    go true e =
        let h : length xs ≤ n = grind (arith, nat_tests) in
        take_all n (reverse xs) (let l = length-reverse xs in omega (arith, l, h))
        ∙ ap (λ (k : ℕ). reverse (drop k xs)) (let z : 0 ≡ length xs - n = omega (arith, h) in z)
    go false e = let h : n ≤ length xs = grind (arith, nat_tests) in
        ap (take n) (parted n xs)
        ∙ ap (λ (k : ℕ). take k (reverse (drop (length xs - n) xs) ++ reverse (take (length xs - n) xs))) (sym (top_length n xs h))
        ∙ take-append_seam (reverse (drop (length xs - n) xs)) (reverse (take (length xs - n) xs))

-- a phrase is finished: its parts are taken, and it comes on top
pub finished : {X : Type 0} (n : ℕ) (xs ys zs : List X) (x : X) → ys ≡ take (length xs - n) xs → zs ≡ ys ++ x ∷ [] → x ∷ drop n (reverse xs) ≡ reverse zs
finished {X = X} n xs ys zs x e h = ap (λ (s : List X). x ∷ s) (drop_top n xs ∙ ap reverse (sym e)) ∙ sym (ap reverse h ∙ reverse-append ys (x ∷ []))
