-- Numbers that differ, by a sort.
use Rattle.std.proofs.Common.{◌≡◌, ℕ, ◌<◌, Bool, true, false, eqb, get_or, List, [], ◌∷◌, refl, sym, arith}
use Rattle.std.specs.Prelude.{not, IsPermutation}
use Rattle.std.specs.Bool.{Decides}
use Rattle.std.specs.List.{list_any, IsDistinct, AllByRecursion}
use Rattle.std.specs.List.Sorted.{IsNonDecreasing, IsStrictlyIncreasing}
use Rattle.std.proofs.lemmas.Bool.{and_parts, and_from, not-true, not_from_false, or_parts, or_from, ne_eqb}
use Rattle.std.proofs.lemmas.Bool.Decides.{same_from_decides, Decides-like, Decides-eqb}
use Rattle.std.proofs.lemmas.List.Kept.{AllPairs-from_increasing}
use Rattle.std.proofs.lemmas.List.Sorted.{IsPermutation-sym}
use Rattle.std.proofs.lemmas.Map.Keys.{IsDistinct-from_apart, IsDistinct-IsPermutation, IsStrictlyIncreasing-from_distinct}
use Rattle.elf_static.specs.Table.{are_distinct}

none_alike : (x : ℕ) (xs : List ℕ) → list_any (eqb x) xs ≡ false → AllByRecursion (λ y. eqb x y ≡ false) xs
none_alike x [] h = tt
none_alike x (y ∷ ys) h = let p = or_parts (eqb x y) (list_any (eqb x) ys) h in (p.0, none_alike x ys p.1)

alike_none : (x : ℕ) (xs : List ℕ) → AllByRecursion (λ y. eqb x y ≡ false) xs → list_any (eqb x) xs ≡ false
alike_none x [] h = refl
alike_none x (y ∷ ys) h = or_from (eqb x y) (list_any (eqb x) ys) h.0 (alike_none x ys h.1)

pub IsDistinct-from_test : (xs : List ℕ) → are_distinct xs ≡ true → IsDistinct eqb xs
unfolding IsDistinct
IsDistinct-from_test [] h = tt
IsDistinct-from_test (x ∷ xs) h =
    let p = and_parts (not (list_any (eqb x) xs)) (are_distinct xs) h in
    (none_alike x xs (not-true (list_any (eqb x) xs) p.0), IsDistinct-from_test xs p.1)

pub test-from_IsDistinct : (xs : List ℕ) → IsDistinct eqb xs → are_distinct xs ≡ true
unfolding IsDistinct
test-from_IsDistinct [] h = refl
test-from_IsDistinct (x ∷ xs) h = and_from (not (list_any (eqb x) xs)) (are_distinct xs) (not_from_false (list_any (eqb x) xs) (alike_none x xs h.0)) (test-from_IsDistinct xs h.1)

flips : (x y : ℕ) → eqb x y ≡ eqb y x
flips x y = same_from_decides (eqb x y) (eqb y x) (Decides-eqb x y) (Decides-like (eqb y x) sym sym (Decides-eqb y x))

distinct_from_increasing : (xs : List ℕ) → IsStrictlyIncreasing xs → IsDistinct eqb xs
distinct_from_increasing xs h = IsDistinct-from_apart eqb xs (λ i j d lt le. let below : get_or xs i d < get_or xs j d = AllPairs-from_increasing xs h i j d lt le in ne_eqb (get_or xs i d) (get_or xs j d) (λ e. absurd (omega arith)))

-- numbers differ where a sort of them rises
pub are_distinct-from_sort : (xs ys : List ℕ) (rises : Bool) → IsPermutation xs ys → IsNonDecreasing ys → Decides rises (IsStrictlyIncreasing ys) → rises ≡ are_distinct xs
are_distinct-from_sort xs ys rises moved sorted decides =
    let there : IsStrictlyIncreasing ys → IsDistinct eqb xs = λ h. IsDistinct-IsPermutation eqb flips ys xs (IsPermutation-sym xs ys moved) (distinct_from_increasing ys h) in
    let back : IsDistinct eqb xs → IsStrictlyIncreasing ys = λ h. IsStrictlyIncreasing-from_distinct ys sorted (IsDistinct-IsPermutation eqb flips xs ys moved h) in
    same_from_decides rises (are_distinct xs) (Decides-like rises there back decides) (IsDistinct-from_test xs, test-from_IsDistinct xs)
