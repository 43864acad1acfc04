-- Labels that are bound one behind the other.
use Rattle.std.proofs.Common.{◌≡◌, ◌≢◌, ℕ, zero, suc, ◌+◌, ◌-◌, ◌≤◌, ◌<◌, List, [], ◌∷◌, ◌++◌, Option, Some, None, length, take, drop, map, refl, sym, ap, ◌∙◌, arith, length-append}
use Rattle.std.specs.Prelude.{slice_get, slice_set, replicate}
use Rattle.std.proofs.lemmas.List.{append_assoc, map-append, length-map}
use Rattle.emit_text.specs.Text.{starts, total}
use Rattle.emit_text.specs.Bound.{bound_from}

-- ---- Lists

pub get_front : {X : Type 0} (xs ys : List X) (i : ℕ) → i < length xs → slice_get (xs ++ ys) i ≡ slice_get xs i
get_front [] ys i h = absurd (omega arith)
get_front (x ∷ xs) ys zero h = refl
get_front (x ∷ xs) ys (suc i) h = get_front xs ys i (omega arith)

pub get_back : {X : Type 0} (xs ys : List X) (n i : ℕ) → length xs ≡ n → slice_get (xs ++ ys) (n + i) ≡ slice_get ys i
get_back [] ys n i e = ap (slice_get ys) (omega (arith, e))
get_back (x ∷ xs) ys zero i e = absurd (omega (arith, e))
get_back (x ∷ xs) ys (suc n) i e =
    let s : suc n + i ≡ suc (n + i) = omega arith in
    ap (slice_get (x ∷ (xs ++ ys))) s ∙ get_back xs ys n i (omega (arith, e))

pub set_seam : {X : Type 0} (xs : List X) (y : X) (ys : List X) (n : ℕ) (x : X) → length xs ≡ n → slice_set (xs ++ y ∷ ys) n x ≡ xs ++ x ∷ ys
set_seam [] y ys zero x e = refl
set_seam [] y ys (suc n) x e = absurd (omega (arith, e))
set_seam (z ∷ xs) y ys zero x e = absurd (omega (arith, e))
set_seam (z ∷ xs) y ys (suc n) x e = ap (λ ws. z ∷ ws) (set_seam xs y ys n x (omega (arith, e)))

pub set_other : {X : Type 0} (xs : List X) (a b : ℕ) (x : X) → b ≢ a → slice_get (slice_set xs a x) b ≡ slice_get xs b
set_other [] a b x n = refl
set_other (z ∷ zs) zero zero x n = absurd (n refl)
set_other (z ∷ zs) zero (suc b) x n = refl
set_other (z ∷ zs) (suc a) zero x n = refl
set_other (z ∷ zs) (suc a) (suc b) x n = set_other zs a b x (λ e. n (ap suc e))

pub take_front : {X : Type 0} (xs ys : List X) (n : ℕ) → length xs ≡ n → take n (xs ++ ys) ≡ xs
take_front [] ys zero e = refl
take_front [] ys (suc n) e = absurd (omega (arith, e))
take_front (x ∷ xs) ys zero e = absurd (omega (arith, e))
take_front (x ∷ xs) ys (suc n) e = ap (λ ws. x ∷ ws) (take_front xs ys n (omega (arith, e)))

pub drop_front : {X : Type 0} (xs ys : List X) (n : ℕ) → length xs ≡ n → drop n (xs ++ ys) ≡ ys
drop_front [] ys zero e = refl
drop_front [] ys (suc n) e = absurd (omega (arith, e))
drop_front (x ∷ xs) ys zero e = absurd (omega (arith, e))
drop_front (x ∷ xs) ys (suc n) e = drop_front xs ys n (omega (arith, e))

-- what is there has a list behind it
pub split_at : {X : Type 0} (xs : List X) (n : ℕ) (x : X) → slice_get xs n ≡ Some x → xs ≡ take n xs ++ x ∷ drop (suc n) xs
split_at [] n x e = cc
split_at (z ∷ xs) zero x e = let s : z ≡ x = cc in ap (λ w. w ∷ xs) s
split_at (z ∷ xs) (suc n) x e = ap (λ ws. z ∷ ws) (split_at xs n x e)

pub long_enough : {X : Type 0} (xs : List X) (n : ℕ) (x : X) → slice_get xs n ≡ Some x → n < length xs
long_enough [] n x e = cc
long_enough (z ∷ xs) zero x e = omega arith
long_enough (z ∷ xs) (suc n) x e = let l = long_enough xs n x e in omega arith

pub length_front : {X : Type 0} (xs : List X) (n : ℕ) → n ≤ length xs → length (take n xs) ≡ n
length_front [] zero h = refl
length_front [] (suc n) h = absurd (omega arith)
length_front (x ∷ xs) zero h = refl
length_front (x ∷ xs) (suc n) h = let l = length_front xs n (omega arith) in omega arith

pub drop_here : {X : Type 0} (xs : List X) (n : ℕ) (x : X) → slice_get xs n ≡ Some x → drop n xs ≡ x ∷ drop (suc n) xs
drop_here [] n x e = cc
drop_here (z ∷ xs) zero x e = let s : z ≡ x = cc in ap (λ w. w ∷ xs) s
drop_here (z ∷ xs) (suc n) x e = drop_here xs n x e

pub get_drop : {X : Type 0} (xs : List X) (n i : ℕ) → slice_get (drop n xs) i ≡ slice_get xs (n + i)
get_drop xs zero i = ap (slice_get xs) (omega arith)
get_drop [] (suc n) i = refl
get_drop (x ∷ xs) (suc n) i =
    let s : suc n + i ≡ suc (n + i) = omega arith in
    get_drop xs n i ∙ sym (ap (slice_get (x ∷ xs)) s)

pub get_take : {X : Type 0} (xs : List X) (n i : ℕ) → i < n → slice_get (take n xs) i ≡ slice_get xs i
get_take xs zero i h = absurd (omega arith)
get_take [] (suc n) i h = refl
get_take (x ∷ xs) (suc n) zero h = refl
get_take (x ∷ xs) (suc n) (suc i) h = get_take xs n i (omega arith)

-- ---- Labels

-- none is bound yet
pub bound_none : (first : ℕ) (old : List (Option ℕ)) → bound_from first [] old ≡ old
bound_none first old = ap (λ n. take first old ++ drop n old) (omega arith) ∙ whole first old
  where
    whole : (n : ℕ) (xs : List (Option ℕ)) → take n xs ++ drop n xs ≡ xs
    whole zero xs = refl
    whole (suc n) [] = refl
    whole (suc n) (x ∷ xs) = ap (λ ws. x ∷ ws) (whole n xs)

-- one more is
pub bound_more : (first k x : ℕ) (at : List ℕ) (old : List (Option ℕ)) (o : Option ℕ) → length at ≡ k → slice_get old (first + k) ≡ Some o → slice_set (bound_from first at old) (first + k) (Some x) ≡ bound_from first (at ++ x ∷ []) old
bound_more first k x at old o e g =
    let there = long_enough old (first + k) o g in
    let front : List (Option ℕ) = take first old in
    let done : List (Option ℕ) = map Some at in
    let rest : List (Option ℕ) = drop (suc (first + k)) old in
    let now : drop (first + length at) old ≡ o ∷ rest = ap (λ n. drop (first + n) old) e ∙ drop_here old (first + k) o g in
    let long : length (front ++ done) ≡ first + k = omega (arith, length-append front done, length_front old first (omega arith), length-map at Some, e) in
    let last : map Some (at ++ x ∷ []) ≡ done ++ Some x ∷ [] = map-append Some at (x ∷ []) in
    let count : first + length (at ++ x ∷ []) ≡ suc (first + k) = omega (arith, length-append at (x ∷ []), e) in
    ap (λ ws. slice_set (front ++ (done ++ ws)) (first + k) (Some x)) now
    ∙ ap (λ ws. slice_set ws (first + k) (Some x)) (sym (append_assoc front done (o ∷ rest)))
    ∙ set_seam (front ++ done) o rest (first + k) (Some x) long
    ∙ append_assoc front done (Some x ∷ rest)
    ∙ ap (λ ws. front ++ ws) (sym (append_assoc done (Some x ∷ []) rest))
    ∙ ap (λ ws. front ++ (ws ++ rest)) (sym last)
    ∙ ap (λ n. front ++ (map Some (at ++ x ∷ []) ++ drop n old)) (sym count)

-- the labels behind those that are bound stay as they are
pub bound_behind : (first k : ℕ) (at : List ℕ) (old : List (Option ℕ)) → length at ≤ k → first + length at ≤ length old → slice_get (bound_from first at old) (first + k) ≡ slice_get old (first + k)
bound_behind first k at old h l =
    let front : List (Option ℕ) = take first old in
    let done : List (Option ℕ) = map Some at in
    let rest : List (Option ℕ) = drop (first + length at) old in
    let n = length at in
    let long : length (front ++ done) ≡ first + n = omega (arith, length-append front done, length_front old first (omega arith), length-map at Some) in
    let here : first + k ≡ (first + n) + (k - n) = omega arith in
    ap (slice_get (front ++ (done ++ rest))) here
    ∙ ap (λ ws. slice_get ws ((first + n) + (k - n))) (sym (append_assoc front done rest))
    ∙ get_back (front ++ done) rest (first + n) (k - n) long
    ∙ get_drop old (first + n) (k - n)
    ∙ ap (slice_get old) (sym here)

pub bound_length : (first : ℕ) (at : List ℕ) (old : List (Option ℕ)) → first + length at ≤ length old → length (bound_from first at old) ≡ length old
bound_length first at old l =
    let front : List (Option ℕ) = take first old in
    let done : List (Option ℕ) = map Some at in
    let rest : List (Option ℕ) = drop (first + length at) old in
    omega (arith, length-append front (done ++ rest), length-append done rest, length_front old first (omega arith), length-map at Some, dropped (first + length at) old)
  where
    dropped : (n : ℕ) (xs : List (Option ℕ)) → length (drop n xs) ≡ length xs - n
    dropped zero xs = omega arith
    dropped (suc n) [] = omega arith
    dropped (suc n) (x ∷ xs) = dropped n xs ∙ omega arith

-- where the labels to be bound stand between others
pub bound_between : (first : ℕ) (at : List ℕ) (front middle behind : List (Option ℕ)) → length front ≡ first → length middle ≡ length at → bound_from first at (front ++ (middle ++ behind)) ≡ front ++ (map Some at ++ behind)
bound_between first at front middle behind e f =
    ap (λ ws. ws ++ (map Some at ++ drop (first + length at) (front ++ (middle ++ behind)))) (take_front front (middle ++ behind) first e)
    ∙ ap (λ ws. front ++ (map Some at ++ drop (first + length at) ws)) (sym (append_assoc front middle behind))
    ∙ ap (λ ws. front ++ (map Some at ++ ws)) (drop_front (front ++ middle) behind (first + length at) (omega (arith, length-append front middle, e, f)))

-- ---- Where pieces begin

pub starts_length : (n : ℕ) (sizes : List ℕ) → length (starts n sizes) ≡ length sizes
starts_length n [] = refl
starts_length n (k ∷ sizes) = let e = starts_length (n + k) sizes in omega arith

pub total_both : (xs ys : List ℕ) → total (xs ++ ys) ≡ total xs + total ys
total_both [] ys = omega arith
total_both (x ∷ xs) ys = let e = total_both xs ys in omega arith

pub starts_both : (n : ℕ) (xs ys : List ℕ) → starts n (xs ++ ys) ≡ starts n xs ++ starts (n + total xs) ys
starts_both n [] ys = ap (λ m. starts m ys) (omega arith)
starts_both n (x ∷ xs) ys = ap (λ ws. n ∷ ws) (starts_both (n + x) xs ys ∙ ap (λ m. starts (n + x) xs ++ starts m ys) (omega arith))

-- ---- The start

abbrev no_place : Option ℕ
no_place = None

pub get_same : (n i : ℕ) → i < n → slice_get (replicate n no_place) i ≡ Some None
get_same zero i h = absurd (omega arith)
get_same (suc n) zero h = refl
get_same (suc n) (suc i) h = get_same n i (omega arith)
