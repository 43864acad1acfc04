-- The order of labels.
use Rattle.std.proofs.Common.{◌≡◌, ◌≢◌, ◌<◌, ◌≤◌, ◌+◌, ◌-◌, Bool, true, false, cond, ℕ, zero, suc, ℤ, List, [], ◌∷◌, ◌++◌, length, get_or, map, drop, take, refl, sym, ap, ◌∙◌, subst, arith, rules, ◌⊎◌, inl, inr}
use Rattle.std.specs.Prelude.{not, nat_lt, nat_eq, int_lt, ◌||◌, ◌&&◌, count_by, slice_index_or}
use Rattle.std.specs.Cmp.{IsStrictWeakOrder}
use Rattle.std.specs.List.Sorted.{IsSortedBy, IsPartitionedBy, IsPermutation}
use Rattle.std.proofs.lemmas.List.Sums.{sum_by-cons}
use Rattle.std.proofs.lemmas.List.Sorted.{sum_by-IsPermutation}
use Rattle.std.specs.Borrow.{Bor}
use Rattle.std.proofs.lemmas.Bool.{lt-ltb, le-ltb, eq-eqb, ne_eqb, cases_lt}
use Rattle.std.proofs.Math.Bool.{or-false}
use Rattle.sml_tree.specs.IsBare.{bytes_less, lab_less}
use Rattle.sml_tree.specs.declared.bare.Lab.{Lab}
use Rattle.sml_tree.specs.declared.bare.Lab.TheVariants.{Num, Text}
use Rattle.smlc_base.specs.declared.place.Place.{Place}
use Rattle.std.proofs.lemmas.List.{map-append}
use Rattle.std.proofs.lemmas.List.{take_more}
use Rattle.sml_expansion.specs.Types.{labs_of}
use Rattle.sml_expansion.specs.Labels.{before, slot}

-- how the first bytes decide
less_lt : (x y : ℕ) (xs ys : List ℕ) → x < y → bytes_less (x ∷ xs) (y ∷ ys) ≡ true
less_lt x y xs ys h = ap (λ b. b || (nat_eq x y && bytes_less xs ys)) (lt-ltb x y h)

less_eq : (x y : ℕ) (xs ys : List ℕ) → x ≡ y → bytes_less (x ∷ xs) (y ∷ ys) ≡ bytes_less xs ys
less_eq x y xs ys e =
    let l : nat_lt x y ≡ false = le-ltb x y (omega (arith, e)) in
    let s : nat_eq x y ≡ true = eq-eqb x y e in
    ap (λ b. b || (nat_eq x y && bytes_less xs ys)) l ∙ ap (λ b. b && bytes_less xs ys) s

less_gt : (x y : ℕ) (xs ys : List ℕ) → y < x → bytes_less (x ∷ xs) (y ∷ ys) ≡ false
less_gt x y xs ys h =
    let l : nat_lt x y ≡ false = le-ltb x y (omega (arith, h)) in
    let s : nat_eq x y ≡ false = ne_eqb x y (λ e. omega (arith, h, e)) in
    ap (λ b. b || (nat_eq x y && bytes_less xs ys)) l ∙ ap (λ b. b && bytes_less xs ys) s

-- three ways
ways : (x y : ℕ) → (x < y) ⊎ ((x ≡ y) ⊎ (y < x))
ways x y = step (cases_lt x y) (cases_lt y x)
  where
    step : (x < y) ⊎ (y ≤ x) → (y < x) ⊎ (x ≤ y) → (x < y) ⊎ ((x ≡ y) ⊎ (y < x))
    step (inl h) _ = inl h
    step (inr h) (inl w) = inr (inr w)
    step (inr h) (inr w) = inr (inl (omega (arith, h, w)))

bytes_one_way : (xs ys : List ℕ) → bytes_less xs ys ≡ true → bytes_less ys xs ≡ false
bytes_one_way [] [] e = refl
bytes_one_way [] (y ∷ ys) e = refl
bytes_one_way (x ∷ xs) [] e = cc
bytes_one_way (x ∷ xs) (y ∷ ys) e = step (ways x y) (bytes_one_way xs ys)
  where
    step : (x < y) ⊎ ((x ≡ y) ⊎ (y < x)) → (bytes_less xs ys ≡ true → bytes_less ys xs ≡ false) → bytes_less (y ∷ ys) (x ∷ xs) ≡ false
    step (inl h) r = less_gt y x ys xs h
    step (inr (inl s)) r = less_eq y x ys xs (sym s) ∙ r (sym (less_eq x y xs ys s) ∙ e)
    step (inr (inr h)) r = let f : bytes_less (x ∷ xs) (y ∷ ys) ≡ false = less_gt x y xs ys h in cc

bytes_chain : (xs ys zs : List ℕ) → bytes_less xs ys ≡ false → bytes_less ys zs ≡ false → bytes_less xs zs ≡ false
bytes_chain [] [] zs e f = f
bytes_chain [] (y ∷ ys) zs e f = cc
bytes_chain (x ∷ xs) ys [] e f = refl
bytes_chain (x ∷ xs) [] (z ∷ zs) e f = cc
bytes_chain (x ∷ xs) (y ∷ ys) (z ∷ zs) e f = step (ways x y) (ways y z) (bytes_chain xs ys zs)
  where
    step : (x < y) ⊎ ((x ≡ y) ⊎ (y < x)) → (y < z) ⊎ ((y ≡ z) ⊎ (z < y)) → (bytes_less xs ys ≡ false → bytes_less ys zs ≡ false → bytes_less xs zs ≡ false) → bytes_less (x ∷ xs) (z ∷ zs) ≡ false
    step (inl h) _ r = let t : bytes_less (x ∷ xs) (y ∷ ys) ≡ true = less_lt x y xs ys h in cc
    step (inr _) (inl h) r = let t : bytes_less (y ∷ ys) (z ∷ zs) ≡ true = less_lt y z ys zs h in cc
    step (inr (inl s)) (inr (inl t)) r = let same : x ≡ z = s ∙ t in less_eq x z xs zs same ∙ r (sym (less_eq x y xs ys s) ∙ e) (sym (less_eq y z ys zs t) ∙ f)
    step (inr (inl s)) (inr (inr h)) r = less_gt x z xs zs (omega (arith, s, h))
    step (inr (inr h)) (inr (inl t)) r = less_gt x z xs zs (omega (arith, t, h))
    step (inr (inr h)) (inr (inr w)) r = less_gt x z xs zs (omega (arith, w, h))

int_one_way : (x y : ℤ) → int_lt x y ≡ true → int_lt y x ≡ false
int_one_way x y e = search rules

int_chain : (x y z : ℤ) → int_lt x y ≡ false → int_lt y z ≡ false → int_lt x z ≡ false
int_chain x y z e f = search rules

pub lab_one_way : (x y : Lab) → lab_less x y ≡ true → lab_less y x ≡ false
lab_one_way (Num x) (Num y) e = int_one_way x y e
lab_one_way (Num x) (Text ys) e = refl
lab_one_way (Text xs) (Num y) e = cc
lab_one_way (Text xs) (Text ys) e = bytes_one_way xs ys e

pub lab_chain : (x y z : Lab) → lab_less x y ≡ false → lab_less y z ≡ false → lab_less x z ≡ false
lab_chain (Num x) (Num y) (Num z) e f = int_chain x y z e f
lab_chain (Num x) (Num y) (Text zs) e f = cc
lab_chain (Num x) (Text ys) z e f = cc
lab_chain (Text xs) (Num y) (Num z) e f = refl
lab_chain (Text xs) (Num y) (Text zs) e f = cc
lab_chain (Text xs) (Text ys) (Num z) e f = refl
lab_chain (Text xs) (Text ys) (Text zs) e f = bytes_chain xs ys zs e f

pub labs_ordered : IsStrictWeakOrder lab_less
labs_ordered = record { one_way = lab_one_way; chain = lab_chain }

pub before_ordered : IsStrictWeakOrder before
before_ordered = record { one_way = λ x y. lab_one_way x.now y.now; chain = λ x y z. lab_chain x.now y.now z.now }

-- the code's ways out of two lists of bytes
pub right_ends : (xs ys : List ℕ) → 1 ≤ length xs → length ys < 1 → bytes_less xs ys ≡ false
right_ends [] ys h w = absurd (omega (arith, h))
right_ends (x ∷ xs) [] h w = refl
right_ends (x ∷ xs) (y ∷ ys) h w = absurd (omega (arith, w))

pub left_ends : (xs ys : List ℕ) (b : Bool) → length xs < 1 → b ≡ nat_eq (length ys) 0 → not b ≡ bytes_less xs ys
left_ends [] [] b h e = ap not e
left_ends [] (y ∷ ys) b h e = ap not (e ∙ ne_eqb (suc (length ys)) 0 (λ k. omega (arith, k)))
left_ends (x ∷ xs) ys b h e = absurd (omega (arith, h))

pub differ : (xs ys : List ℕ) → 1 ≤ length xs → 1 ≤ length ys → slice_index_or xs 0 0 ≢ slice_index_or ys 0 0 → nat_lt (slice_index_or xs 0 0) (slice_index_or ys 0 0) ≡ bytes_less xs ys
differ [] ys h w n = absurd (omega (arith, h))
differ (x ∷ xs) [] h w n = absurd (omega (arith, w))
differ (x ∷ xs) (y ∷ ys) h w n =
    let s : nat_eq x y ≡ false = ne_eqb x y n in
    sym (ap (λ b. nat_lt x y || (b && bytes_less xs ys)) s ∙ or-false (nat_lt x y))

pub agree : (xs ys : List ℕ) → 1 ≤ length xs → 1 ≤ length ys → slice_index_or xs 0 0 ≡ slice_index_or ys 0 0 → bytes_less (drop 1 xs) (drop 1 ys) ≡ bytes_less xs ys
agree [] ys h w e = absurd (omega (arith, h))
agree (x ∷ xs) [] h w e = absurd (omega (arith, w))
agree (x ∷ xs) (y ∷ ys) h w e = sym (less_eq x y xs ys e)

-- Counting the labels before one in an ordered list.
partitioned : (lab : Lab) (order : List (Bor Lab)) → IsSortedBy before order → (i j : ℕ) (d : Bor Lab) → i ≤ j → j < length order → lab_less (slice_index_or order j d).now lab ≡ true → lab_less (slice_index_or order i d).now lab ≡ true
partitioned lab order s i j d h w e = grown (j - i) i j (omega (arith, h)) w e
  where
    back : (a b : Lab) → lab_less b a ≡ false → lab_less b lab ≡ true → lab_less a lab ≡ true
    back a b n t = cases (lab_less a lab) refl
      where
        cases : (v : Bool) → lab_less a lab ≡ v → lab_less a lab ≡ true
        cases true k = k
        cases false k = let f : lab_less b lab ≡ false = lab_chain b a lab n k in cc

    one : (k : ℕ) → k + 1 < length order → lab_less (slice_index_or order (k + 1) d).now lab ≡ true → lab_less (slice_index_or order k d).now lab ≡ true
    one k l t = back (slice_index_or order k d).now (slice_index_or order (k + 1) d).now (s k d (omega arith) l) t

    grown : (n i j : ℕ) → j ≡ i + n → j < length order → lab_less (slice_index_or order j d).now lab ≡ true → lab_less (slice_index_or order i d).now lab ≡ true
    grown zero i j e l t = let same : j ≡ i = omega (arith, e) in subst (λ k. lab_less (slice_index_or order k d).now lab ≡ true) same t
    grown (suc n) i j e l t =
        let up : j ≡ (i + 1) + n = omega (arith, e) in
        let inside : i + 1 < length order = omega (arith, e, l) in
        one i inside (grown n (i + 1) j up l t)

pub is_partitioned : (lab : Lab) (order : List (Bor Lab)) → IsSortedBy before order → IsPartitionedBy (λ other. lab_less other.now lab) order
is_partitioned lab order s = partitioned lab order s

-- those below a partition point are counted
pub counted : {X : Type 0} (p : X → Bool) (x : X) (xs : List X) → count_by p (x ∷ xs) ≡ cond {A = ℕ} (p x) 1 0 + count_by p xs
counted p x xs = sum_by-cons (λ y. cond (p y) 1 0) x xs

count_none : {X : Type 0} (p : X → Bool) (xs : List X) → ((k : ℕ) (d : X) → k < length xs → p (slice_index_or xs k d) ≡ false) → count_by p xs ≡ 0
count_none p [] h = refl
count_none p (x ∷ xs) h =
    let first : cond {A = ℕ} (p x) 1 0 ≡ 0 = ap (λ b. cond {A = ℕ} b 1 0) (h 0 x (omega arith)) in
    let rest : count_by p xs ≡ 0 = count_none p xs (λ k d l. h (suc k) d (omega (arith, l))) in
    let all : count_by p (x ∷ xs) ≡ cond {A = ℕ} (p x) 1 0 + count_by p xs = counted p x xs in
    omega (arith, first, rest, all)

pub point_counts : {X : Type 0} (p : X → Bool) (xs : List X) (i : ℕ) → i ≤ length xs → ((k : ℕ) (d : X) → 0 ≤ k → k < i → p (slice_index_or xs k d) ≡ true) → ((k : ℕ) (d : X) → i ≤ k → k < length xs → p (slice_index_or xs k d) ≡ false) → i ≡ count_by p xs
point_counts p xs zero w below above = sym (count_none p xs (λ k d l. above k d (omega arith) l))
point_counts p [] (suc i) w below above = absurd (omega (arith, w))
point_counts p (x ∷ xs) (suc i) w below above =
    let rest : i ≡ count_by p xs = point_counts p xs i (omega (arith, w)) (λ k d _ l. below (suc k) d (omega arith) (omega (arith, l))) (λ k d l m. above (suc k) d (omega (arith, l)) (omega (arith, m))) in
    let one : cond {A = ℕ} (p x) 1 0 ≡ 1 = ap (λ b. cond {A = ℕ} b 1 0) (below 0 x (omega arith) (omega arith)) in
    let all : count_by p (x ∷ xs) ≡ cond {A = ℕ} (p x) 1 0 + count_by p xs = counted p x xs in
    omega (arith, rest, one, all)

-- references to labels, and the labels
through : (lab : Lab) (order : List (Bor Lab)) → count_by (λ (other : Bor Lab). lab_less other.now lab) order ≡ count_by (λ other. lab_less other lab) (map (λ (r : Bor Lab). r.now) order)
through lab [] = refl
through lab (r ∷ order) =
    counted (λ (other : Bor Lab). lab_less other.now lab) r order
    ∙ ap (λ n. cond (lab_less r.now lab) 1 0 + n) (through lab order)
    ∙ sym (counted (λ other. lab_less other lab) r.now (map (λ (r : Bor Lab). r.now) order))

pub counts_same : (lab : Lab) (from order : List (Bor Lab)) (labs : List Lab) → IsPermutation from order → map (λ (r : Bor Lab). r.now) from ≡ labs → count_by (λ (other : Bor Lab). lab_less other.now lab) order ≡ slot labs lab
counts_same lab from order labs moved e =
    sum_by-IsPermutation (λ (other : Bor Lab). cond (lab_less other.now lab) 1 0) from order moved
    ∙ through lab from
    ∙ ap (count_by (λ other. lab_less other lab)) e

-- one more slot
pub slots_more : (labs : List (Lab × Place)) (all : List Lab) (i n : ℕ) (y : Lab × Place) (slots now : List ℕ) → i < length labs → y ≡ get_or labs i y → slots ≡ map (slot all) (labs_of (take i labs)) → n ≡ slot all y.0 → now ≡ slots ++ n ∷ []
    → now ≡ map (slot all) (labs_of (take (i + 1) labs))
slots_more labs all i n y slots now h at e f g =
    g
    ∙ ap (λ m. slots ++ m ∷ []) f
    ∙ ap (λ l. l ++ slot all y.0 ∷ []) e
    ∙ sym (map-append (slot all) (labs_of (take i labs)) (y.0 ∷ []))
    ∙ ap (map (slot all)) (sym (map-append (λ (l : Lab × Place). l.0) (take i labs) (y ∷ [])) ∙ ap labs_of (sym (take_more labs i y h ∙ ap (λ x. take i labs ++ x ∷ []) (sym at))))
