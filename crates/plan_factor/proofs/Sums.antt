-- The words and the classes of a group.
use Rattle.std.proofs.Common.{◌≡◌, ℕ, zero, suc, ◌+◌, ◌-◌, ◌<◌, ◌≤◌, List, [], ◌∷◌, length, take, drop, refl, sym, ap, ◌∙◌, arith}
use Rattle.std.specs.Prelude.{slice_get, slice_index_or}
use Rattle.std.proofs.Math.Seq.{drop-cons}
use Rattle.sml_tree.specs.Sets.{union, union_over}
use Rattle.sml_tree.specs.IsBare.{IsAscending}
use Rattle.sml_tree.proofs.AscendingSets.{over_ascending}
use Rattle.cps_free.specs.Same.{AreSame}
use Rattle.cps_free.proofs.Sets.{one_list}
use Rattle.cps_free.proofs.Steps.{over_more, union_none, same_trans}
use Rattle.closure_layouts.specs.declared.layouts.ClosureLayout.{ClosureLayout}
use Rattle.plan_factor.specs.Groups.{AreAscending, words_at, classes_at, words_in, classes_in}

pub words_back : (layouts : List ClosureLayout) (is : List ℕ) (i d words total sum : ℕ) → 0 < i → i ≤ length is → words ≡ words_at (slice_get layouts (slice_index_or is (i - 1) d)) → total ≡ words_in layouts (drop i is) → sum ≡ words + total → sum ≡ words_in layouts (drop (i - 1) is)
words_back layouts is i d words total sum pos le e g h =
    let k = slice_index_or is (i - 1) d in
    let next : suc (i - 1) ≡ i = omega arith in
    let front : drop (i - 1) is ≡ k ∷ drop i is = drop-cons is (i - 1) d (omega arith) ∙ ap (λ j. k ∷ drop j is) next in
    let a : words_in layouts (drop (i - 1) is) ≡ words_at (slice_get layouts k) + words_in layouts (drop i is) = ap (words_in layouts) front in
    omega (arith, a, e, g, h)

pub classes_more : (layouts : List ClosureLayout) (is : List ℕ) (i d : ℕ) (old new : List ℕ) → i < length is → AreSame old (union_over (λ j. classes_at (slice_get layouts j)) (take i is)) → AreSame new (union (classes_at (slice_get layouts (slice_index_or is i d))) old) → AreSame new (union_over (λ j. classes_at (slice_get layouts j)) (take (i + 1) is))
classes_more layouts is i d old new lt h g =
    same_trans new (union (union_over F (take (i + 1) is)) []) (union_over F (take (i + 1) is))
    (over_more F is i d (slice_index_or is i d) [] old new lt refl (same_trans old (union_over F (take i is)) (union (union_over F (take i is)) []) h (λ z. sym (union_none (union_over F (take i is)) [] refl z))) g)
    (union_none (union_over F (take (i + 1) is)) [] refl)
  where
    F : ℕ → List ℕ
    F j = classes_at (slice_get layouts j)

ascend_at : (layouts : List ClosureLayout) (i : ℕ) → AreAscending layouts → IsAscending 0 (classes_at (slice_get layouts i))
ascend_at [] i a = tt
ascend_at (k ∷ layouts) zero a = a.0
ascend_at (k ∷ layouts) (suc i) a = ascend_at layouts i a.1

pub classes_listed : (layouts : List ClosureLayout) (group keys : List ℕ) → AreAscending layouts → IsAscending 0 keys → AreSame keys (classes_in layouts group) → keys ≡ classes_in layouts group
classes_listed layouts group keys a o s = one_list 0 keys (classes_in layouts group) o (over_ascending (λ i. classes_at (slice_get layouts i)) (λ i. ascend_at layouts i a) group) s
