-- How many numbers are below one, in an ordered list.
use Rattle.std.proofs.Common.{◌≡◌, ℕ, zero, suc, ◌+◌, ◌<◌, ◌≤◌, Bool, true, false, cond, List, [], ◌∷◌, length, map, refl, sym, ap, ◌∙◌, arith}
use Rattle.std.specs.Prelude.{nat_lt, count_by, slice_index_or}
use Rattle.std.specs.List.Sorted.{IsNonDecreasing, IsPartitionedBy, IsPermutation}
use Rattle.std.proofs.lemmas.List.Sums.{sum_by-cons}
use Rattle.std.proofs.lemmas.List.Sorted.{sum_by-IsPermutation}
use Rattle.std.proofs.lemmas.Bool.{lt-ltb, ltb-true}
use Rattle.sml_tree.specs.Order.{rank}
use Rattle.smlc_base.specs.declared.point.Point.{Point}
use Rattle.cps_ir.specs.Slim.{Layout}
use Rattle.lifetime_users.specs.Users.{label_in}
use Rattle.variable_users.specs.Ranks.{AreRanks}

pub is_partitioned : (r : ℕ) (ranks : List ℕ) → IsNonDecreasing ranks → IsPartitionedBy (λ q. nat_lt q r) ranks
is_partitioned r ranks s i j d h w e =
    let le : slice_index_or ranks i d ≤ slice_index_or ranks j d = s i j d h w in
    let lt : slice_index_or ranks j d < r = ltb-true (slice_index_or ranks j d) r e in
    lt-ltb (slice_index_or ranks i d) r (omega (arith, le, lt))

counted : {X : Type 0} (p : X → Bool) (x : X) (xs : List X) → count_by p (x ∷ xs) ≡ cond {A = ℕ} (p x) 1 0 + count_by p xs
counted p x xs = sum_by-cons (λ y. cond (p y) 1 0) x xs

count_none : {X : Type 0} (p : X → Bool) (xs : List X) → ((k : ℕ) (d : X) → k < length xs → p (slice_index_or xs k d) ≡ false) → count_by p xs ≡ 0
count_none p [] h = refl
count_none p (x ∷ xs) h =
    let first : cond {A = ℕ} (p x) 1 0 ≡ 0 = ap (λ b. cond {A = ℕ} b 1 0) (h 0 x (omega arith)) in
    let rest : count_by p xs ≡ 0 = count_none p xs (λ k d l. h (suc k) d (omega (arith, l))) in
    let all : count_by p (x ∷ xs) ≡ cond {A = ℕ} (p x) 1 0 + count_by p xs = counted p x xs in
    omega (arith, first, rest, all)

pub point_counts : {X : Type 0} (p : X → Bool) (xs : List X) (i : ℕ) → i ≤ length xs → ((k : ℕ) (d : X) → 0 ≤ k → k < i → p (slice_index_or xs k d) ≡ true) → ((k : ℕ) (d : X) → i ≤ k → k < length xs → p (slice_index_or xs k d) ≡ false) → i ≡ count_by p xs
point_counts p xs zero w below above = sym (count_none p xs (λ k d l. above k d (omega arith) l))
point_counts p [] (suc i) w below above = absurd (omega (arith, w))
point_counts p (x ∷ xs) (suc i) w below above =
    let rest : i ≡ count_by p xs = point_counts p xs i (omega (arith, w)) (λ k d _ l. below (suc k) d (omega arith) (omega (arith, l))) (λ k d l m. above (suc k) d (omega (arith, l)) (omega (arith, m))) in
    let one : cond {A = ℕ} (p x) 1 0 ≡ 1 = ap (λ b. cond {A = ℕ} b 1 0) (below 0 x (omega arith) (omega arith)) in
    let all : count_by p (x ∷ xs) ≡ cond {A = ℕ} (p x) 1 0 + count_by p xs = counted p x xs in
    omega (arith, rest, one, all)

through : (r : ℕ) (all : List Layout) → count_by (λ q. nat_lt q r) (map (λ (l : Layout). rank l.point) all) ≡ count_by (λ (l : Layout). nat_lt (rank l.point) r) all
through r [] = refl
through r (l ∷ all) =
    counted (λ q. nat_lt q r) (rank l.point) (map (λ (l : Layout). rank l.point) all) ∙ ap (λ n. cond (nat_lt (rank l.point) r) 1 0 + n) (through r all) ∙ sym (counted (λ (l : Layout). nat_lt (rank l.point) r) l all)

pub are_ranks : (all : List Layout) (from ranks : List ℕ) → from ≡ map (λ (l : Layout). rank l.point) all → IsPermutation from ranks → IsNonDecreasing ranks → AreRanks all ranks
are_ranks all from ranks e moved s = record {
  sorted = s;
  counts = λ r. sum_by-IsPermutation (λ q. cond (nat_lt q r) 1 0) from ranks moved ∙ ap (count_by (λ q. nat_lt q r)) e ∙ through r all;
}

pub labelled : (all : List Layout) (ranks : List ℕ) (p : Point) (r place : ℕ) → AreRanks all ranks → r ≡ rank p → place ≡ count_by (λ q. nat_lt q r) ranks → place ≡ label_in all p
labelled all ranks p r place are e f = f ∙ ap (λ r. count_by (λ q. nat_lt q r) ranks) e ∙ are.counts (rank p)
