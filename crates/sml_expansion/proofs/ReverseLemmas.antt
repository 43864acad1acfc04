-- The last items of a list, the last first.
use Rattle.std.proofs.Common.{◌≡◌, ◌≤◌, ◌<◌, ℕ, suc, ◌-◌, zero, List, [], ◌∷◌, ◌++◌, take, drop, reverse, length, refl, sym, ap, ◌∙◌, arith, ◌⊎◌, inl, inr}
use Rattle.std.proofs.lemmas.Bool.{cases_lt}
use Rattle.std.proofs.lemmas.List.{take-append-drop, reverse-append, length-reverse, length-drop}
use Rattle.std.proofs.Math.Seq.{take-append_seam, drop-append_seam}

-- a list cut where so many items are left, and these first
taken : (k : ℕ) (xs ys : List ℕ) → length xs ≡ k → take k (xs ++ ys) ≡ xs
taken k xs ys h = ap (λ n. take n (xs ++ ys)) (sym h) ∙ take-append_seam xs ys

dropped : (k : ℕ) (xs ys : List ℕ) → length xs ≡ k → drop k (xs ++ ys) ≡ ys
dropped k xs ys h = ap (λ n. drop n (xs ++ ys)) (sym h) ∙ drop-append_seam xs ys

reversed : (m : ℕ) (xs : List ℕ) → reverse (drop m xs) ++ reverse (take m xs) ≡ reverse xs
reversed m xs = sym (reverse-append (take m xs) (drop m xs)) ∙ ap reverse (take-append-drop m xs)

-- so many items stand in the list
left : (k : ℕ) (xs : List ℕ) → k ≤ length xs → length (reverse (drop (length xs - k) xs)) ≡ k
left k xs h = let a : length (reverse (drop (length xs - k) xs)) ≡ length xs - (length xs - k) = length-reverse (drop (length xs - k) xs) ∙ length-drop (length xs - k) xs in omega (arith, a, h)

-- more were asked for than there are
all_taken : {A : Type 0} (k : ℕ) (xs : List A) → length xs ≤ k → take k xs ≡ xs
all_taken zero [] h = refl
all_taken (suc k) [] h = refl
all_taken zero (x ∷ xs) h = absurd (omega (arith, h))
all_taken (suc k) (x ∷ xs) h = let rest : length xs ≤ k = omega (arith, h) in ap (λ l. x ∷ l) (all_taken k xs rest)

all_dropped : {A : Type 0} (k : ℕ) (xs : List A) → length xs ≤ k → drop k xs ≡ []
all_dropped zero [] h = refl
all_dropped (suc k) [] h = refl
all_dropped zero (x ∷ xs) h = absurd (omega (arith, h))
all_dropped (suc k) (x ∷ xs) h = let rest : length xs ≤ k = omega (arith, h) in all_dropped k xs rest

nothing_before : (k : ℕ) (xs : List ℕ) → length xs < k → length xs - k ≡ 0
nothing_before k xs h = omega (arith, h)

within : (k : ℕ) (xs : List ℕ) → length xs < k → length (reverse xs) ≤ k
within k xs h = let a : length (reverse xs) ≡ length xs = length-reverse xs in omega (arith, a, h)

pub last_taken : (k : ℕ) (xs : List ℕ) → reverse (drop (length xs - k) xs) ≡ take k (reverse xs)
last_taken k xs = step (cases_lt (length xs) k)
  where
    step : (length xs < k) ⊎ (k ≤ length xs) → reverse (drop (length xs - k) xs) ≡ take k (reverse xs)
    step (inl h) = ap (λ n. reverse (drop n xs)) (nothing_before k xs h) ∙ sym (all_taken k (reverse xs) (within k xs h))
    step (inr h) = sym (taken k (reverse (drop (length xs - k) xs)) (reverse (take (length xs - k) xs)) (left k xs h)) ∙ ap (take k) (reversed (length xs - k) xs)

pub last_dropped : (k : ℕ) (xs : List ℕ) → reverse (take (length xs - k) xs) ≡ drop k (reverse xs)
last_dropped k xs = step (cases_lt (length xs) k)
  where
    step : (length xs < k) ⊎ (k ≤ length xs) → reverse (take (length xs - k) xs) ≡ drop k (reverse xs)
    step (inl h) = ap (λ n. reverse (take n xs)) (nothing_before k xs h) ∙ sym (all_dropped k (reverse xs) (within k xs h))
    step (inr h) = sym (dropped k (reverse (drop (length xs - k) xs)) (reverse (take (length xs - k) xs)) (left k xs h)) ∙ ap (drop k) (reversed (length xs - k) xs)

pub reverse_one : {A : Type 0} (xs : List A) (x : A) → reverse (xs ++ x ∷ []) ≡ x ∷ reverse xs
reverse_one xs x = reverse-append xs (x ∷ [])
