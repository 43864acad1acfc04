-- Sets with marks: a number is put last or taken out there.
use Rattle.std.proofs.Common.{◌≡◌, ◌≢◌, ℕ, zero, suc, ◌+◌, ◌<◌, ◌≤◌, Bool, true, false, List, [], ◌∷◌, ◌++◌, length, take, set, inl, inr, ⊎_elim, refl, sym, ap, ◌∙◌, subst, arith, ap₂, ◌-◌, length-set, length-take}
use Rattle.std.specs.Prelude.{get_or, replicate}
use Rattle.std.proofs.lemmas.Bool.{cases_lt}
use Rattle.std.proofs.lemmas.List.{get_or-set_same, get_or-set_other, get_or_past, get_or_read, take_more, take_more_set}
use Rattle.simulation.specs.Blocks.{IsAmong}
use Rattle.simulation.specs.Words.{IsDistinct, weight}
use Rattle.simulation.proofs.Lists.{among_left, among_right, among_append, among_one, length_last}
use Rattle.simulation.proofs.Heaps.{eq_cases}
use Rattle.simulation.proofs.Weights.{weight_contained}
use Rattle.heap_reach.specs.Numbers.{Numbers, IsSet, IsMarked, IsKept}

-- ---- Lists of numbers

pub distinct_last : (xs : List ℕ) (x : ℕ) → IsDistinct xs → (IsAmong x xs → ⊥) → IsDistinct (xs ++ x ∷ [])
distinct_last [] x d n = (λ h. h, tt)
distinct_last (y ∷ ys) x d n = (
  λ h. ⊎_elim (λ (u : IsAmong y ys). d.0 u) (λ (u : IsAmong y (x ∷ [])). n (inl (sym (among_one y x u)))) (among_append y ys (x ∷ []) h),
  distinct_last ys x d.1 (λ h. n (inr h)),
)

pub distinct_front : (xs : List ℕ) (x : ℕ) → IsDistinct (xs ++ x ∷ []) → IsDistinct xs
distinct_front [] x d = tt
distinct_front (y ∷ ys) x d = (λ h. d.0 (among_left y ys (x ∷ []) h), distinct_front ys x d.1)

pub last_apart : (xs : List ℕ) (x : ℕ) → IsDistinct (xs ++ x ∷ []) → IsAmong x xs → ⊥
last_apart [] x d h = h
last_apart (y ∷ ys) x d (inl e) = d.0 (among_right y ys (x ∷ []) (inl (sym e)))
last_apart (y ∷ ys) x d (inr h) = last_apart ys x d.1 h

abbrev below : ℕ → List ℕ
below zero = []
below (suc n) = n ∷ below n

among_below : (n x : ℕ) → x < n → IsAmong x (below n)
among_below zero x l = absurd (omega arith)
among_below (suc n) x l = ⊎_elim (λ (e : x ≡ n). inl e) (λ (e : x ≢ n). inr (among_below n x (let m : x < n = grind arith in m))) (eq_cases x n)

length_below : (n : ℕ) → length (below n) ≡ n
length_below zero = refl
length_below (suc n) = ap suc (length_below n)

abbrev pub one : ℕ → ℕ
one x = 1

pub weighs : (xs : List ℕ) → weight one xs ≡ length xs
weighs [] = refl
weighs (x ∷ xs) = let e = weighs xs in omega arith

-- different numbers below n are at most n
pub few_below : (xs : List ℕ) (n : ℕ) → IsDistinct xs → ((x : ℕ) → IsAmong x xs → x < n) → length xs ≤ n
few_below xs n d b =
    let h = weight_contained one xs (below n) d (λ x i. among_below n x (b x i)) in
    let e = weighs xs in
    let f = weighs (below n) in
    let g = length_below n in
    omega arith

-- ---- Marks

pub no_marks : (n : ℕ) (marks : List Bool) → marks ≡ replicate n false → IsMarked marks []
no_marks n marks e = record {
  distinct = tt;
  below = λ j h. absurd h;
  marked = λ j h. absurd h;
  only = λ j h.
      ⊎_elim
      (λ (l : j < length marks). absurd (let f : get_or marks j false ≡ false = ap (λ (ms : List Bool). get_or ms j false) e ∙ none n j in cc))
      (λ (l : length marks ≤ j). absurd (let f : get_or marks j false ≡ false = get_or_past marks j false l in cc))
      (cases_lt j (length marks));
}
  where
    none : (n j : ℕ) → get_or (replicate n false) j false ≡ false
    none zero j = refl
    none (suc n) zero = refl
    none (suc n) (suc j) = none n j

module _ (marks : List Bool) (xs : List ℕ) (j : ℕ) (here : j < length marks) where
  set_there : (b : Bool) (i : ℕ) → i ≡ j → get_or (set marks j b) i false ≡ b
  set_there b i e = ap (λ k. get_or (set marks j b) k false) e ∙ get_or-set_same marks j b false here

  set_apart : (b : Bool) (i : ℕ) → i ≢ j → get_or (set marks j b) i false ≡ get_or marks i false
  set_apart b i n = get_or-set_other marks j i b false n

  pub marked_more : IsMarked marks xs → (IsAmong j xs → ⊥) → IsMarked (set marks j true) (xs ++ j ∷ [])
  marked_more m new = record {
    distinct = distinct_last xs j m.distinct new;
    below = λ i h. rw length-set (⊎_elim (λ (u : IsAmong i xs). m.below i u) (λ (u : IsAmong i (j ∷ [])). subst (λ k. k < length marks) (sym (among_one i j u)) here) (among_append i xs (j ∷ []) h));
    marked = λ i h. ⊎_elim
        (λ (e : i ≡ j). set_there true i e)
        (λ (n : i ≢ j). set_apart true i n ∙ m.marked i (⊎_elim (λ (u : IsAmong i xs). u) (λ (u : IsAmong i (j ∷ [])). absurd (n (among_one i j u))) (among_append i xs (j ∷ []) h)))
        (eq_cases i j);
    only = λ i h. ⊎_elim
        (λ (e : i ≡ j). among_right i xs (j ∷ []) (inl e))
        (λ (n : i ≢ j). among_left i xs (j ∷ []) (m.only i (sym (set_apart true i n) ∙ h)))
        (eq_cases i j);
  }

  pub marked_fewer : IsMarked marks (xs ++ j ∷ []) → IsMarked (set marks j false) xs
  marked_fewer m = record {
    distinct = distinct_front xs j m.distinct;
    below = λ i h. rw length-set (m.below i (among_left i xs (j ∷ []) h));
    marked = λ i h. ⊎_elim
        (λ (e : i ≡ j). absurd (last_apart xs j m.distinct (subst (λ k. IsAmong k xs) e h)))
        (λ (n : i ≢ j). set_apart false i n ∙ m.marked i (among_left i xs (j ∷ []) h))
        (eq_cases i j);
    only = λ i h. ⊎_elim
        (λ (e : i ≡ j). absurd (let f = set_there false i e in cc))
        (λ (n : i ≢ j). ⊎_elim (λ (u : IsAmong i xs). u) (λ (u : IsAmong i (j ∷ [])). absurd (n (among_one i j u))) (among_append i xs (j ∷ []) (m.only i (sym (set_apart false i n) ∙ h))))
        (eq_cases i j);
  }

-- ---- The list that has room for all

pub kept_set : (marks : List Bool) (list : List ℕ) (count : ℕ) → IsKept marks list count → IsSet (record { room = length marks; numbers = take count list })
kept_set marks list count k = record {
  distinct = k.marked.distinct;
  below = k.marked.below;
  few = few_below (take count list) (length marks) k.marked.distinct k.marked.below;
  small = k.small;
}

-- where a number is missing there is room for it
pub has_room : (marks : List Bool) (list : List ℕ) (count j : ℕ) → IsKept marks list count → j < length marks → (IsAmong j (take count list) → ⊥) → count < length list
has_room marks list count j k l n =
    let m = marked_more marks (take count list) j l k.marked n in
    let f = few_below (take count list ++ j ∷ []) (length (set marks j true)) m.distinct m.below in
    let g = length-set marks j true in
    let h = length_last (take count list) j in
    let t = length-take count list in
    let w = k.within in
    let r = k.room in
    omega arith

pub kept_more : (marks : List Bool) (list : List ℕ) (count j : ℕ) → IsKept marks list count → j < length marks → (IsAmong j (take count list) → ⊥) → IsKept (set marks j true) (set list count j) (count + 1)
kept_more marks list count j k l n =
    let r = has_room marks list count j k l n in
    let t = take_more_set list count j r in
    record {
      marked = subst (IsMarked (set marks j true)) (sym t) (marked_more marks (take count list) j l k.marked n);
      within = rw length-set (omega arith);
      room = length-set list count j ∙ k.room ∙ sym (length-set marks j true);
      small = rw length-set k.small;
    }

-- the last number of the list
pub taken_last : (list : List ℕ) (count : ℕ) → suc count ≤ length list → take (suc count) list ≡ take count list ++ get_or list count 0 ∷ []
taken_last list count l = let e : count + 1 ≡ suc count = omega arith in subst (λ n. take n list ≡ take count list ++ get_or list count 0 ∷ []) e (take_more list count 0 l)

pub kept_fewer : (marks : List Bool) (list : List ℕ) (count : ℕ) → IsKept marks list (suc count) → (get_or list count 0 < length marks) × IsKept (set marks (get_or list count 0) false) list count
kept_fewer marks list count k =
    let j = get_or list count 0 in
    let t = taken_last list count k.within in
    let m : IsMarked marks (take count list ++ j ∷ []) = subst (IsMarked marks) t k.marked in
    let here : j < length marks = m.below j (among_right j (take count list) (j ∷ []) (inl refl)) in
    let w = k.within in (
      here,
      record {
        marked = marked_fewer marks (take count list) j here m;
        within = omega arith;
        room = k.room ∙ sym (length-set marks j false);
        small = rw length-set k.small;
      },
    )

-- a number is the last of the list
pub kept_pop : (marks : List Bool) (list : List ℕ) (count x : ℕ) → 0 < length (take count list) → x ≡ get_or list (count - 1) x → IsKept marks list count → (x < length marks) × IsKept (set marks x false) list (count - 1)
kept_pop marks list zero x some e k = absurd (omega arith)
kept_pop marks list (suc count) x some e k =
    let low : suc count - 1 ≡ count = omega arith in
    let w = k.within in
    let read : x ≡ get_or list count x = subst (λ n. x ≡ get_or list n x) low e in
    let is : x ≡ get_or list count 0 = get_or_read list count x (omega arith) read 0 in
    rw (low, is) (kept_fewer marks list count k)

pub more_shown : (marks : List Bool) (list : List ℕ) (count j : ℕ) → count < length list → ◌≡◌ {A = Numbers} (record { room = length (set marks j true); numbers = take (count + 1) (set list count j) }) (record { room = length marks; numbers = take count list ++ j ∷ [] })
more_shown marks list count j l = ap₂ (λ r xs. let n : Numbers = record { room = r; numbers = xs } in n) (length-set marks j true) (take_more_set list count j l)

pub none_left : (n : Numbers) (marks : List Bool) (list : List ℕ) (count room : ℕ) → record { room = length marks; numbers = take count list } ≡ n → count ≤ 0 → n.room ≡ room → n ≡ record { room = room; numbers = [] }
none_left n marks list zero room e l r = sym e ∙ ap (λ k. record { room = k; numbers = [] }) (ap (λ (m : Numbers). m.room) e ∙ r)
none_left n marks list (suc count) room e l r = absurd (omega arith)
