-- Routines put one behind the other.
use Rattle.std.proofs.Common.{◌≡◌, ◌≢◌, ℕ, zero, suc, ◌+◌, ◌≤◌, ◌<◌, List, [], ◌∷◌, ◌++◌, length, get_or, take, drop, map, Option, Some, None, Result, Ok, Err, OnErr, refl, ap, ◌∙◌, sym, subst, arith, append_assoc, length-append}
use Rattle.std.specs.Prelude.{slice_get, slice_set, replicate}
use Rattle.std.proofs.lemmas.List.{take_more, take-append-drop, length-set, length-replicate, map-append}
use Rattle.std.proofs.lemmas.Grind.{flat_map-append}
use Rattle.rv_asm.specs.declared.item.Item.{Item}
use Rattle.rv_asm.specs.Program.{Program, with_place, IsFree}
use Rattle.rt_prims.specs.declared.line.Routine.{Routine}
use Rattle.rt_prims.specs.declared.line.Line.{Line}
use Rattle.rt_prims.specs.Lines.{number, labels, item_of, with_lines}
use Rattle.rt_prims.specs.Text.{lines_of, with_routine, with_routines, order, with_labels, AreFree, items_of, HasBegun}

-- ---- numbers ascend

abbrev AreFrom : ℕ → List Routine → Type 0
AreFrom k [] = Unit {0}
AreFrom k (r ∷ rs) = (number r ≡ k) × AreFrom (suc k) rs

number_from : (k : ℕ) (rs : List Routine) → AreFrom k rs → (i : ℕ) (d : Routine) → i < length rs → number (get_or rs i d) ≡ k + i
number_from k [] a i d h = absurd (omega arith)
number_from k (r ∷ rs) a zero d h = omega (arith, a.0)
number_from k (r ∷ rs) a (suc i) d h = let e = number_from (suc k) rs a.1 i d (omega arith) in omega arith

order_from : AreFrom 0 order
order_from = (refl, (refl, (refl, (refl, (refl, (refl, (refl, (refl, (refl, (refl, (refl, (refl, (refl, (refl, (refl, (refl, (refl, (refl, tt))))))))))))))))))

pub number_at : (rs : List Routine) (i : ℕ) (d : Routine) → rs ≡ order → i < length rs → number (get_or rs i d) ≡ i
number_at rs i d e h = let n = number_from 0 order order_from i d (omega (arith, ap length e)) in subst (λ xs. number (get_or xs i d) ≡ i) (sym e) (omega arith)

-- ---- labels that are free

set_other : {X : Type 0} (xs : List X) (a b : ℕ) (x : X) → b ≢ a → slice_get (slice_set xs a x) b ≡ slice_get xs b
set_other [] a b x n = refl
set_other (z ∷ zs) zero zero x n = absurd (n refl)
set_other (z ∷ zs) zero (suc b) x n = refl
set_other (z ∷ zs) (suc a) zero x n = refl
set_other (z ∷ zs) (suc a) (suc b) x n = set_other zs a b x (λ e. n (ap suc e))

pub free_here : (first i n : ℕ) (p : Program) → AreFree first i p → n ≡ i → i < 18 → IsFree p (first + n)
free_here first i n p f e h = f n (omega arith) (omega arith)

pub still_free : (first i n : ℕ) (r : Routine) (p q : Program) → AreFree first i p → n ≡ i → number r ≡ n → q ≡ with_routine first p r → AreFree first (i + 1) q
still_free first i n r p q f e m is j l h =
    let other : first + j ≢ first + number r = λ x. absurd (omega arith) in
    ap (λ x. slice_get x.places (first + j)) is ∙ (set_other p.places (first + number r) (first + j) _ other ∙ f j (omega arith) h)

pub as_many : (first : ℕ) (r : Routine) (p q : Program) (n : ℕ) → q ≡ with_routine first p r → length p.places ≡ n → length q.places ≡ n
as_many first r p q n is e = ap (λ x. length x.places) is ∙ (length-set p.places (first + number r) _ ∙ e)

abbrev nothing : Option ℕ
nothing = None

one_free : (n j : ℕ) → j < n → slice_get (replicate n nothing) j ≡ Some None
one_free zero j h = absurd (omega arith)
one_free (suc n) zero h = refl
one_free (suc n) (suc j) h = one_free n j (omega arith)

behind : {X : Type 0} (xs ys : List X) (j : ℕ) → slice_get (xs ++ ys) (length xs + j) ≡ slice_get ys j
behind [] ys j = ap (slice_get ys) (omega arith)
behind (x ∷ xs) ys j = let e : suc (length xs) + j ≡ suc (length xs + j) = omega arith in ap (slice_get (x ∷ (xs ++ ys))) e ∙ behind xs ys j

pub new_free : (first : ℕ) (p q : Program) → first ≡ length p.places → q ≡ with_labels labels p → AreFree first 0 q
new_free first p q e is j l h = ap (λ x. slice_get x.places (first + j)) is ∙ (ap (λ n. slice_get (p.places ++ replicate labels None) (n + j)) e ∙ (behind p.places (replicate labels None) j ∙ one_free labels j h))

pub new_made : (first : ℕ) (p q : Program) → first ≡ length p.places → q ≡ with_labels labels p → first + labels ≤ length q.places
new_made first p q e is = omega (arith, ap (λ x. length x.places) is, length-append p.places (replicate labels None), length-replicate labels nothing)

-- ---- one more routine

with_one : (first : ℕ) (p : Program) (rs : List Routine) (r : Routine) → with_routines first p (rs ++ r ∷ []) ≡ with_routine first (with_routines first p rs) r
with_one first p [] r = refl
with_one first p (s ∷ rs) r = with_one first (with_routine first p s) rs r

pub one_more : (first : ℕ) (p q s : Program) (rs : List Routine) (i : ℕ) (d : Routine) → i < length rs → rs ≡ order → q ≡ with_routines first p (take i order) → s ≡ with_routine first q (get_or rs i d) → s ≡ with_routines first p (take (i + 1) order)
one_more first p q s rs i d h e is next =
    let l : i < length order = omega (arith, ap length e) in
    next
    ∙ (ap (λ x. with_routine first x (get_or rs i d)) is
    ∙ (ap (λ xs. with_routine first (with_routines first p (take i order)) (get_or xs i d)) e
    ∙ (sym (with_one first p (take i order) (get_or order i d)) ∙ ap (with_routines first p) (sym (take_more order i d l)))))

pub all_put : (first : ℕ) (p q : Program) (i : ℕ) → 18 ≤ i → q ≡ with_routines first p (take i order) → q ≡ with_routines first p order
all_put first p q i h is = is ∙ ap (with_routines first p) (take_all order i h)
  where
    take_all : {X : Type 0} (xs : List X) (n : ℕ) → length xs ≤ n → take n xs ≡ xs
    take_all [] zero l = refl
    take_all [] (suc n) l = refl
    take_all (x ∷ xs) zero l = absurd (omega arith)
    take_all (x ∷ xs) (suc n) l = ap (λ ys. x ∷ ys) (take_all xs n (omega arith))

-- ---- what has been put

items_put : (first : ℕ) (p : Program) (rs : List Routine) → (with_routines first p rs).items ≡ p.items ++ items_of first rs
items_put first p [] = sym (append_nil p.items)
  where
    append_nil : {X : Type 0} (xs : List X) → xs ++ [] ≡ xs
    append_nil [] = refl
    append_nil (x ∷ xs) = ap (λ ys. x ∷ ys) (append_nil xs)
items_put first p (r ∷ rs) = items_put first (with_routine first p r) rs ∙ append_assoc p.items (map (item_of first) (lines_of r)) (items_of first rs)

split : {X : Type 0} (xs : List X) (i : ℕ) (d : X) → i < length xs → xs ≡ take i xs ++ get_or xs i d ∷ drop (suc i) xs
split [] i d h = absurd (omega arith)
split (x ∷ xs) zero d h = refl
split (x ∷ xs) (suc i) d h = ap (λ ys. x ∷ ys) (split xs i d (omega arith))

pub begun : (first : ℕ) (p q s : Program) (rs : List Routine) (i k : ℕ) (d : Routine) → i < length rs → rs ≡ order → q ≡ with_routines first p (take i order) → s ≡ with_lines first (with_place q (first + number (get_or rs i d))) (take k (lines_of (get_or rs i d))) → HasBegun first p s
begun first p q s rs i k d h e is next =
    let l : i < length order = omega (arith, ap length e) in
    let r = get_or rs i d in
    let same : r ≡ get_or order i d = ap (λ xs. get_or xs i d) e in
    let f : Line → Item = item_of first in
    let all : Routine → List Item = λ x. map f (lines_of x) in
    let front = items_of first (take i order) in
    let rest = items_of first (drop (suc i) order) in
    let cut : map f (take k (lines_of r)) ++ map f (drop k (lines_of r)) ≡ map f (lines_of r) = sym (map-append f (take k (lines_of r)) (drop k (lines_of r))) ∙ ap (map f) (take-append-drop k (lines_of r)) in
    let whole : items_of first order ≡ front ++ (map f (lines_of (get_or order i d)) ++ rest) = ap (items_of first) (split order i d l) ∙ flat_map-append all (take i order) (get_or order i d ∷ drop (suc i) order) in
    record {
      done = front ++ map f (take k (lines_of r));
      left = map f (drop k (lines_of r)) ++ rest;
      whole = append_assoc front (map f (take k (lines_of r))) (map f (drop k (lines_of r)) ++ rest)
          ∙ (ap (λ xs. front ++ xs) (sym (append_assoc (map f (take k (lines_of r))) (map f (drop k (lines_of r))) rest))
          ∙ (ap (λ xs. front ++ (xs ++ rest)) cut ∙ (ap (λ x. front ++ (map f (lines_of x) ++ rest)) same ∙ sym whole)));
      items = ap (λ x. x.items) next ∙ (ap (λ x. x.items ++ map f (take k (lines_of r))) is ∙ (ap (λ xs. xs ++ map f (take k (lines_of r))) (items_put first p (take i order)) ∙ append_assoc p.items front (map f (take k (lines_of r)))));
    }

pub none_put : (first : ℕ) (p q : Program) → q.items ≡ p.items → HasBegun first p q
none_put first p q e = record { done = []; left = items_of first order; whole = refl; items = e ∙ sym (append_nil p.items) }
  where
    append_nil : {X : Type 0} (xs : List X) → xs ++ [] ≡ xs
    append_nil [] = refl
    append_nil (x ∷ xs) = ap (λ ys. x ∷ ys) (append_nil xs)

pub begun_from : (first n : ℕ) (p q s : Program) → first ≡ n → q ≡ with_labels labels p → HasBegun first q s → HasBegun n p s
begun_from first n p q s e is h = record {
  done = h.done;
  left = h.left;
  whole = h.whole ∙ ap (λ k. items_of k order) e;
  items = h.items ∙ ap (λ x. x.items ++ h.done) is;
}

pub told : {T E P : Type 0} (r : Result T E) → P → OnErr r P
told (Ok x) p = tt
told (Err e) p = p

pub all_made : (p q : Program) (n : ℕ) → n ≡ labels → q ≡ with_labels n p → q ≡ with_labels labels p
all_made p q n e is = is ∙ ap (λ k. with_labels k p) e
