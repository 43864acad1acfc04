-- Sums over lists, and lists that are chosen from ascending ones.
use Rattle.std.proofs.Common.{◌≡◌, ℕ, suc, ◌+◌, ◌*◌, ◌<◌, ◌≤◌, Bool, true, false, cond, List, [], ◌∷◌, filter, refl, sym, ap, ◌∙◌, subst, arith, inl, inr}
use Rattle.std.specs.Prelude.{sum_by, count_by}
use Rattle.std.proofs.lemmas.List.Sums.{sum_by-cons}
use Rattle.simulation.specs.Blocks.{IsAmong}
use Rattle.simulation.specs.Words.{weight}
use Rattle.sml_def.proofs.Least.{IsAscending, ascending_down, among_between}

pub sum_weight : {X : Type 0} (f : X → ℕ) (xs : List X) → sum_by f xs ≡ weight f xs
sum_weight f [] = refl
sum_weight f (x ∷ xs) = sum_by-cons f x xs ∙ ap (λ n. f x + n) (sum_weight f xs)

-- weights that are equal at each item
pub weight_same : {X : Type 0} (f g : X → ℕ) (xs : List X) → ((x : X) → IsAmong x xs → f x ≡ g x) → weight f xs ≡ weight g xs
weight_same f g [] h = refl
weight_same f g (x ∷ xs) h = ap (λ n. n + weight f xs) (h x (inl refl)) ∙ ap (λ n. g x + n) (weight_same f g xs (λ y k. h y (inr k)))

pub weight_none : {X : Type 0} (xs : List X) → weight (λ x. 0) xs ≡ 0
weight_none [] = refl
weight_none (x ∷ xs) = omega (arith, weight_none xs)

pub weight_add : {X : Type 0} (f g : X → ℕ) (xs : List X) → weight (λ x. f x + g x) xs ≡ weight f xs + weight g xs
weight_add f g [] = refl
weight_add f g (x ∷ xs) = omega (arith, weight_add f g xs)

-- a sum of sums, the other way round
pub weight_swap : {X Y : Type 0} (g : X → Y → ℕ) (xs : List X) (ys : List Y) → weight (λ x. weight (g x) ys) xs ≡ weight (λ y. weight (λ x. g x y) xs) ys
weight_swap g [] ys = sym (weight_none ys)
weight_swap g (x ∷ xs) ys =
    ap (λ n. weight (g x) ys + n) (weight_swap g xs ys) ∙ sym (weight_add (g x) (λ y. weight (λ x. g x y) xs) ys)

times_one : (b : Bool) (w m : ℕ) → cond b w 0 + m * w ≡ (cond b 1 0 + m) * w
times_one true w m = omega arith
times_one false w m = omega arith

-- so often as it holds, so many words
pub weight_count : {X : Type 0} (t : X → Bool) (w : ℕ) (xs : List X) → weight (λ x. cond (t x) w 0) xs ≡ count_by t xs * w
weight_count t w xs = go xs ∙ ap (λ n. n * w) (sym (sum_weight (λ x. cond (t x) 1 0) xs))
  where
    go : (xs : List _) → weight (λ x. cond (t x) w 0) xs ≡ weight (λ x. cond (t x) 1 0) xs * w
    go [] = omega arith
    go (x ∷ xs) = ap (λ n. cond (t x) w 0 + n) (go xs) ∙ times_one (t x) w (weight (λ x. cond (t x) 1 0) xs)

-- ---- What is chosen from a list

pub filter_ascending : (t : ℕ → Bool) (lo n : ℕ) (xs : List ℕ) → IsAscending lo n xs → IsAscending lo n (filter t xs)
filter_ascending t lo n [] h = tt
filter_ascending t lo n (x ∷ xs) h = go (t x) (filter_ascending t (suc x) n xs h.2)
  where
    go : (b : Bool) → IsAscending (suc x) n (filter t xs) → IsAscending lo n (cond b (x ∷ filter t xs) (filter t xs))
    go true g = (h.0, h.1, g)
    go false g = ascending_down lo (suc x) n (filter t xs) (let le : lo ≤ x = h.0 in omega arith) g

pub filter_among : (t : ℕ → Bool) (xs : List ℕ) (z : ℕ) → IsAmong z (filter t xs) → IsAmong z xs × (t z ≡ true)
filter_among t [] z h = absurd h
filter_among t (x ∷ xs) z h = go (t x) refl (filter_among t xs z) h
  where
    go : (b : Bool) → t x ≡ b → (IsAmong z (filter t xs) → IsAmong z xs × (t z ≡ true)) → IsAmong z (cond b (x ∷ filter t xs) (filter t xs)) → IsAmong z (x ∷ xs) × (t z ≡ true)
    go true e f (inl same) = (inl same, ap t same ∙ e)
    go true e f (inr g) = (inr (f g).0, (f g).1)
    go false e f g = (inr (f g).0, (f g).1)

pub among_filter : (t : ℕ → Bool) (xs : List ℕ) (z : ℕ) → IsAmong z xs → t z ≡ true → IsAmong z (filter t xs)
among_filter t [] z h e = absurd h
among_filter t (x ∷ xs) z (inl same) e =
    subst (λ b. IsAmong z (cond b (x ∷ filter t xs) (filter t xs))) (sym (ap t (sym same) ∙ e)) (inl same)
among_filter t (x ∷ xs) z (inr h) e = go (t x) (among_filter t xs z h e)
  where
    go : (b : Bool) → IsAmong z (filter t xs) → IsAmong z (cond b (x ∷ filter t xs) (filter t xs))
    go true g = inr g
    go false g = g

-- ascending lists with the same members are the same
pub ascending_same : (lo up m n : ℕ) (xs ys : List ℕ) → IsAscending lo m xs → IsAscending up n ys → ((z : ℕ) → IsAmong z xs → IsAmong z ys) → ((z : ℕ) → IsAmong z ys → IsAmong z xs) → xs ≡ ys
ascending_same lo up m n [] [] h g f b = refl
ascending_same lo up m n [] (y ∷ ys) h g f b = absurd (b y (inl refl))
ascending_same lo up m n (x ∷ xs) [] h g f b = absurd (f x (inl refl))
ascending_same lo up m n (x ∷ xs) (y ∷ ys) h g f b =
    let below : y ≤ x = least y n ys x g.2 (f x (inl refl)) in
    let above : x ≤ y = least x m xs y h.2 (b y (inl refl)) in
    let same : x ≡ y = omega arith in
    ap (λ z. z ∷ xs) same ∙ ap (λ zs. y ∷ zs) (ascending_same (suc x) (suc y) m n xs ys h.2 g.2 (λ z k. behind y ys z (let r = among_between (suc x) m xs z h.2 k in let low : suc x ≤ z = r.0 in omega arith) (f z (inr k))) (λ z k. behind x xs z (let r = among_between (suc y) n ys z g.2 k in let low : suc y ≤ z = r.0 in omega arith) (b z (inr k))))
  where
    -- the first of an ascending list is its least
    least : (x n : ℕ) (xs : List ℕ) (z : ℕ) → IsAscending (suc x) n xs → IsAmong z (x ∷ xs) → x ≤ z
    least x n xs z h (inl e) = omega arith
    least x n xs z h (inr k) = let r = among_between (suc x) n xs z h k in let low : suc x ≤ z = r.0 in omega arith

    behind : (x : ℕ) (xs : List ℕ) (z : ℕ) → x < z → IsAmong z (x ∷ xs) → IsAmong z xs
    behind x xs z l (inl e) = absurd (omega arith)
    behind x xs z l (inr k) = k
