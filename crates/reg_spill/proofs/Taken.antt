-- The places that are taken, and the least that isn't.
use Rattle.std.proofs.Common.{◌≡◌, ℕ, suc, ◌+◌, ◌<◌, ◌≤◌, ◌==◌, Bool, true, false, List, [], ◌∷◌, ◌++◌, cond, length, map, take, refl, sym, ap, ◌∙◌, subst, arith, ⊎_elim}
use Rattle.std.specs.Prelude.{nat_eq, ◌||◌, slice_index_or}
use Rattle.std.proofs.Math.Seq.{take-suc}
use Rattle.simulation.specs.Blocks.{IsAmong}
use Rattle.place_laws.specs.Live.{is_in, without, without_all}
use Rattle.place_laws.specs.Place.{Places, least_free, place_beside}
use Rattle.place_laws.proofs.Places.{among_in, in_among, free_fresh, lt_or_not}
use Rattle.place_laws.proofs.Bounds.{below_least}
use Rattle.closed_live.specs.Same.{AreSame}
use Rattle.closed_live.proofs.Sets.{in_append}
use Rattle.place_bodies.proofs.Least.{least_same}

-- ---- Places beside those that go

eq_sym : (x y : ℕ) → nat_eq x y ≡ nat_eq y x
eq_sym x y = grind arith

without_append : (x : ℕ) (xs ys : List ℕ) → without x (xs ++ ys) ≡ without x xs ++ without x ys
without_append x [] ys = refl
without_append x (y ∷ xs) ys = by (y == x) (without_append x xs ys)
  where
    by : (b : Bool) → without x (xs ++ ys) ≡ without x xs ++ without x ys → cond b (without x (xs ++ ys)) (y ∷ without x (xs ++ ys)) ≡ cond b (without x xs) (y ∷ without x xs) ++ without x ys
    by true e = e
    by false e = ap (λ zs. y ∷ zs) e

without_all_append : (gone xs ys : List ℕ) → without_all gone (xs ++ ys) ≡ without_all gone xs ++ without_all gone ys
without_all_append [] xs ys = refl
without_all_append (x ∷ gone) xs ys = ap (without x) (without_all_append gone xs ys) ∙ without_append x (without_all gone xs) (without_all gone ys)

without_all_one : (gone : List ℕ) (y : ℕ) → without_all gone (y ∷ []) ≡ cond (is_in y gone) [] (y ∷ [])
without_all_one [] y = refl
without_all_one (x ∷ gone) y = ap (without x) (without_all_one gone y) ∙ by (is_in y gone)
  where
    also : (c : Bool) → [] ≡ cond (c || true) [] (y ∷ [])
    also true = refl
    also false = refl

    only : (c : Bool) → cond c [] (y ∷ []) ≡ cond (c || false) [] (y ∷ [])
    only true = refl
    only false = refl

    by : (b : Bool) → without x (cond b [] (y ∷ [])) ≡ cond (nat_eq x y || b) [] (y ∷ [])
    by true = also (nat_eq x y)
    by false = ap (λ c. cond c [] (y ∷ [])) (eq_sym y x) ∙ only (nat_eq x y)

map_append : (f : ℕ → ℕ) (xs ys : List ℕ) → map f (xs ++ ys) ≡ map f xs ++ map f ys
map_append f [] ys = refl
map_append f (x ∷ xs) ys = ap (λ zs. f x ∷ zs) (map_append f xs ys)

taken_suc : (f : ℕ → ℕ) (gone alive : List ℕ) (i d : ℕ) (mid new : List ℕ) → i < length alive → AreSame mid (map f (without_all gone (take i alive))) → AreSame new (cond (is_in (slice_index_or alive i d) gone) mid (f (slice_index_or alive i d) ∷ mid)) → AreSame new (map f (without_all gone (take (suc i) alive)))
taken_suc f gone alive i d mid new lt m n z =
    let y = slice_index_or alive i d in
    let old = without_all gone (take i alive) in
    n z
    ∙ by y (is_in y gone)
    ∙ sym (in_append (map f old) (map f (cond (is_in y gone) [] (y ∷ []))) z)
    ∙ sym (ap (is_in z) (ap (λ xs. map f (without_all gone xs)) (take-suc alive i d lt) ∙ ap (map f) (without_all_append gone (take i alive) (y ∷ [])) ∙ ap (λ xs. map f (old ++ xs)) (without_all_one gone y) ∙ map_append f old (cond (is_in y gone) [] (y ∷ []))))
  where
    none : (a : Bool) → a ≡ (a || false)
    none true = refl
    none false = refl

    swap : (a b : Bool) → (a || b) ≡ (b || (a || false))
    swap true true = refl
    swap true false = refl
    swap false true = refl
    swap false false = refl

    by : (y : ℕ) (b : Bool) → is_in z (cond b mid (f y ∷ mid)) ≡ (is_in z (map f (without_all gone (take i alive))) || is_in z (map f (cond b [] (y ∷ []))))
    by y true = m z ∙ none (is_in z (map f (without_all gone (take i alive))))
    by y false = ap (λ b. nat_eq (f y) z || b) (m z) ∙ swap (nat_eq (f y) z) (is_in z (map f (without_all gone (take i alive))))

pub taken_more : (f : ℕ → ℕ) (gone alive : List ℕ) (i d x : ℕ) (mid new : List ℕ) → i < length alive → x ≡ slice_index_or alive i d → AreSame mid (map f (without_all gone (take i alive))) → AreSame new (cond (is_in x gone) mid (f x ∷ mid)) → AreSame new (map f (without_all gone (take (i + 1) alive)))
taken_more f gone alive i d x mid new lt e m n =
    let up : suc i ≡ i + 1 = omega arith in
    subst (λ k. AreSame new (map f (without_all gone (take k alive)))) up (taken_suc f gone alive i d mid new lt m (subst (λ y. AreSame new (cond (is_in y gone) mid (f y ∷ mid))) e n))

pub none_taken : (f : ℕ → ℕ) (gone keys : List ℕ) → keys ≡ [] → AreSame keys (map f (without_all gone []))
none_taken f gone keys e = λ z. ap (is_in z) (e ∙ sym (ap (map f) (empty gone)))
  where
    empty : (xs : List ℕ) → without_all xs [] ≡ []
    empty [] = refl
    empty (x ∷ xs) = ap (without x) (empty xs)

-- ---- The least

abbrev pub AllBelow : ℕ → List ℕ → Type 0
AllBelow n taken = (q : ℕ) → q < n → IsAmong q taken

pub least_is : (taken : List ℕ) (n : ℕ) → AllBelow n taken → is_in n taken ≡ false → n ≡ least_free taken
least_is taken n h e =
    let a : n ≤ least_free taken = ⊎_elim (λ (l : least_free taken < n). absurd (free_fresh taken (least_free taken) (h (least_free taken) l) refl)) (λ (l : n ≤ least_free taken). l) (lt_or_not (least_free taken) n) in
    let b : least_free taken ≤ n = ⊎_elim (λ (l : n < least_free taken). absurd (let t : false ≡ true = sym e ∙ among_in n taken (below_least taken n l) in cc)) (λ (l : least_free taken ≤ n). l) (lt_or_not n (least_free taken)) in
    omega arith

pub one_below : (taken : List ℕ) (n : ℕ) → AllBelow n taken → is_in n taken ≡ true → AllBelow (n + 1) taken
one_below taken n h e q l =
    ⊎_elim (λ (k : q < n). h q k) (λ (k : n ≤ q). let s : n ≡ q = omega arith in subst (λ t. IsAmong t taken) s (in_among n taken e)) (lt_or_not q n)

pub least_beside : (at : Places) (x : ℕ) (alive keys : List ℕ) (p : ℕ) → AreSame keys (map at (without x alive)) → p ≡ least_free keys → p ≡ place_beside at (without x alive)
least_beside at x alive keys p h e = e ∙ least_same keys (map at (without x alive)) h

pub empty_keys : (keys : List ℕ) → keys ≡ [] → keys ≡ []
empty_keys keys e = e
