-- Elements of lists, and what stands at a place of a list that goes on or is changed.
use Rattle.std.proofs.Common.{◌≡◌, ◌≢◌, ℕ, zero, suc, ◌<◌, ◌+◌, List, [], ◌∷◌, ◌++◌, map, set, length, Option, Some, None, slice_get, Bool, true, false, cond, ◌&&◌, ◌||◌, ◌⊎◌, inl, inr, refl, sym, ap, ◌∙◌, subst, arith, ⊎_elim, length-append}
use Rattle.smlc_base.specs.declared.point.Point.{Point}
use Rattle.simulation.specs.Blocks.{IsAmong}
use Rattle.simulation.specs.Runs.{times}
use Rattle.smlc_base.specs.Points.{is_point, is_label}

-- what holds of the one holds of the other
pub some_eq : {X : Type 0} (P : X → Type 0) (x y : X) → Some x ≡ Some y → P x → P y
some_eq P x y e h = let f : x ≡ y = cc in subst P f h

pub option_cases : {X : Type 0} (o : Option X) → (o ≡ None) ⊎ ((x : X) × (o ≡ Some x))
option_cases None = inl refl
option_cases (Some x) = inr (x, refl)

pub both_true : (b c : Bool) → (b && c) ≡ true → (b ≡ true) × (c ≡ true)
both_true true c e = (refl, e)
both_true false c e = absurd (cc)

-- ---- Elements

pub among_left : {X : Type 0} (x : X) (xs ys : List X) → IsAmong x xs → IsAmong x (xs ++ ys)
among_left x [] ys h = absurd h
among_left x (z ∷ xs) ys (inl e) = inl e
among_left x (z ∷ xs) ys (inr h) = inr (among_left x xs ys h)

pub among_right : {X : Type 0} (x : X) (xs ys : List X) → IsAmong x ys → IsAmong x (xs ++ ys)
among_right x [] ys h = h
among_right x (z ∷ xs) ys h = inr (among_right x xs ys h)

pub among_append : {X : Type 0} (x : X) (xs ys : List X) → IsAmong x (xs ++ ys) → IsAmong x xs ⊎ IsAmong x ys
among_append x [] ys h = inr h
among_append x (z ∷ xs) ys (inl e) = inl (inl e)
among_append x (z ∷ xs) ys (inr h) = ⊎_elim (λ (u : IsAmong x xs). inl (inr u)) (λ (u : IsAmong x ys). inr u) (among_append x xs ys h)

pub among_map : {X Y : Type 0} (f : X → Y) (y : Y) (xs : List X) → IsAmong y (map f xs) → (x : X) × IsAmong x xs × (y ≡ f x)
among_map f y [] h = absurd h
among_map f y (x ∷ xs) (inl e) = (x, inl refl, e)
among_map f y (x ∷ xs) (inr h) = let i = among_map f y xs h in (i.0, inr i.1, i.2)

pub map_among : {X Y : Type 0} (f : X → Y) (x : X) (xs : List X) → IsAmong x xs → IsAmong (f x) (map f xs)
map_among f x [] h = absurd h
map_among f x (z ∷ xs) (inl e) = inl (ap f e)
map_among f x (z ∷ xs) (inr h) = inr (map_among f x xs h)

pub among_one : {X : Type 0} (x y : X) → IsAmong x (y ∷ []) → x ≡ y
among_one x y (inl e) = e
among_one x y (inr h) = absurd h

-- ---- Places

pub get_append : {X : Type 0} (xs ys : List X) (a : ℕ) (x : X) → slice_get xs a ≡ Some x → slice_get (xs ++ ys) a ≡ Some x
get_append [] ys a x e = absurd (cc)
get_append (z ∷ xs) ys zero x e = e
get_append (z ∷ xs) ys (suc a) x e = get_append xs ys a x e

pub get_past : {X : Type 0} (xs ys : List X) (c : ℕ) → slice_get (xs ++ ys) (length xs + c) ≡ slice_get ys c
get_past [] ys c = ap (slice_get ys) (omega arith)
get_past (x ∷ xs) ys c =
    let e : suc (length xs) + c ≡ suc (length xs + c) = omega arith in
    ap (slice_get (x ∷ (xs ++ ys))) e ∙ get_past xs ys c

-- in the first list, or in the second
pub get_split : {X : Type 0} (xs ys : List X) (a : ℕ) (x : X) → slice_get (xs ++ ys) a ≡ Some x → (slice_get xs a ≡ Some x) ⊎ ((c : ℕ) × (a ≡ length xs + c) × (slice_get ys c ≡ Some x))
get_split [] ys a x e = inr (a, omega arith, e)
get_split (z ∷ xs) ys zero x e = inl e
get_split (z ∷ xs) ys (suc a) x e =
    ⊎_elim (λ (h : slice_get xs a ≡ Some x). inl h)
    (λ (h : (c : ℕ) × (a ≡ length xs + c) × (slice_get ys c ≡ Some x)). inr (h.0, let q = h.1 in omega arith, h.2)) (get_split xs ys a x e)

pub get_last : {X : Type 0} (xs : List X) (x : X) → slice_get (xs ++ x ∷ []) (length xs) ≡ Some x
get_last [] x = refl
get_last (z ∷ xs) x = get_last xs x

pub get_cases : {X : Type 0} (xs : List X) (x : X) (a : ℕ) (y : X) → slice_get (xs ++ x ∷ []) a ≡ Some y → (slice_get xs a ≡ Some y) ⊎ ((a ≡ length xs) × (y ≡ x))
get_cases [] x zero y e = inr (refl, let f : Some x ≡ Some y = e in let g : x ≡ y = cc in sym g)
get_cases [] x (suc a) y e = absurd (cc)
get_cases (z ∷ xs) x zero y e = inl e
get_cases (z ∷ xs) x (suc a) y e =
    ⊎_elim (λ (h : slice_get xs a ≡ Some y). inl h) (λ (h : (a ≡ length xs) × (y ≡ x)). inr (ap suc h.0, h.1)) (get_cases xs x a y e)

pub length_last : {X : Type 0} (xs : List X) (x : X) → length (xs ++ x ∷ []) ≡ suc (length xs)
length_last xs x = omega (arith, length-append xs (x ∷ []))

pub get_below : {X : Type 0} (xs : List X) (a : ℕ) → a < length xs → (x : X) × (slice_get xs a ≡ Some x)
get_below [] a h = absurd (omega arith)
get_below (x ∷ xs) zero h = (x, refl)
get_below (x ∷ xs) (suc a) h = get_below xs a (omega arith)

pub get_among : {X : Type 0} (xs : List X) (a : ℕ) (x : X) → slice_get xs a ≡ Some x → IsAmong x xs
get_among [] a x e = absurd (cc)
get_among (z ∷ xs) zero x e = inl (let f : Some z ≡ Some x = e in let g : z ≡ x = cc in sym g)
get_among (z ∷ xs) (suc a) x e = inr (get_among xs a x e)

-- ---- One place changed

pub length_set : {X : Type 0} (xs : List X) (a : ℕ) (x : X) → length (set xs a x) ≡ length xs
length_set [] a x = refl
length_set (y ∷ ys) zero x = refl
length_set (y ∷ ys) (suc a) x = ap suc (length_set ys a x)

pub get_set_same : {X : Type 0} (xs : List X) (a : ℕ) (x y : X) → slice_get xs a ≡ Some y → slice_get (set xs a x) a ≡ Some x
get_set_same [] a x y e = absurd (cc)
get_set_same (z ∷ zs) zero x y e = refl
get_set_same (z ∷ zs) (suc a) x y e = get_set_same zs a x y e

pub get_set_other : {X : Type 0} (xs : List X) (a : ℕ) (x : X) (b : ℕ) → b ≢ a → slice_get (set xs a x) b ≡ slice_get xs b
get_set_other [] a x b n = refl
get_set_other (z ∷ zs) zero x zero n = absurd (n refl)
get_set_other (z ∷ zs) zero x (suc b) n = refl
get_set_other (z ∷ zs) (suc a) x zero n = refl
get_set_other (z ∷ zs) (suc a) x (suc b) n = get_set_other zs a x b (λ e. n (ap suc e))

-- ---- Labels

times_cond : (b : Bool) (n x y : ℕ) → n ≡ x + y → cond b (suc n) n ≡ cond b (suc x) x + y
times_cond true n x y e = omega arith
times_cond false n x y e = e

pub times-append : (p : Point) (xs ys : List Point) → times p (xs ++ ys) ≡ times p xs + times p ys
times-append p [] ys = omega arith
times-append p (x ∷ xs) ys = times_cond (is_point x p) (times p (xs ++ ys)) (times p xs) (times p ys) (times-append p xs ys)

some_times : (b c : Bool) (n : ℕ) → (c ≡ true → 0 < n) → (b || c) ≡ true → 0 < cond b (suc n) n
some_times true c n h e = omega arith
some_times false c n h e = h e

-- a label stands at least once
pub label_times : (p : Point) (labels : List Point) → is_label labels p ≡ true → 0 < times p labels
label_times p [] h = absurd (cc)
label_times p (q ∷ qs) h = some_times (is_point q p) (is_label qs p) (times p qs) (label_times p qs) h

times_some : (b c : Bool) (n : ℕ) → (0 < n → c ≡ true) → 0 < cond b (suc n) n → (b || c) ≡ true
times_some true c n h l = refl
times_some false c n h l = h l

pub times_label : (p : Point) (labels : List Point) → 0 < times p labels → is_label labels p ≡ true
times_label p [] h = absurd (omega arith)
times_label p (q ∷ qs) h = times_some (is_point q p) (is_label qs p) (times p qs) (times_label p qs) h
