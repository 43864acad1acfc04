-- The table of homes, and the variables in order.
use Rattle.std.proofs.Common.{◌≡◌, ℕ, zero, suc, ◌+◌, ◌-◌, ◌<◌, ◌≤◌, Bool, true, false, List, [], ◌∷◌, Option, None, length, take, drop, replicate, refl, sym, ap, ◌∙◌, subst, arith, length-set}
use Rattle.std.specs.Prelude.{nat_eq, cond, slice_set, slice_index_or}
use Rattle.std.specs.List.Sorted.{IsStrictlySortedBy}
use Rattle.std.specs.Ordering.{nat_cmp}
use Rattle.std.proofs.Math.Seq.{drop-cons}
use Rattle.std.proofs.lemmas.Bool.{eqb-true}
use Rattle.std.proofs.lemmas.List.{drop_all}
use Rattle.sml_tree.specs.Sets.{union, union_over}
use Rattle.sml_tree.proofs.AscendingSets.{one_ascending, over_ascending}
use Rattle.cps_free.specs.Same.{AreSame}
use Rattle.cps_free.proofs.Sets.{sorted_ascending, one_list}
use Rattle.cps_free.proofs.Steps.{over_more, union_none, same_trans}
use Rattle.lifetime_users.specs.Users.{Binding, home_of}
use Rattle.live_classes.specs.Keys.{home_at, AreHomes}

none_at : (n x : ℕ) → home_at (replicate n None) x ≡ None
none_at zero x = refl
none_at (suc n) zero = refl
none_at (suc n) (suc x) = none_at n x

length_none : (n : ℕ) → length (replicate {A = Option ℕ} n None) ≡ n
length_none zero = refl
length_none (suc n) = ap suc (length_none n)

pub none_yet : (bound : List Binding) (n i : ℕ) (homes : List (Option ℕ)) → length bound ≤ i → homes ≡ replicate n None → AreHomes (drop i bound) n homes
none_yet bound n i homes past e = record {
  len = ap length e ∙ length_none n;
  at = λ x h. ap (λ hs. home_at hs x) e ∙ none_at n x ∙ ap (λ bs. home_of bs x) (sym (drop_all i bound past));
}

set_same : (homes : List (Option ℕ)) (x : ℕ) (home : Option ℕ) → x < length homes → home_at (slice_set homes x home) x ≡ home
set_same [] x home h = absurd (omega (arith, h))
set_same (g ∷ homes) zero home h = refl
set_same (g ∷ homes) (suc x) home h = set_same homes x home (omega (arith, h))

set_other : (homes : List (Option ℕ)) (i x : ℕ) (home : Option ℕ) → nat_eq i x ≡ false → home_at (slice_set homes i home) x ≡ home_at homes x
set_other [] i x home e = refl
set_other (g ∷ homes) zero zero home e = absurd (cc)
set_other (g ∷ homes) zero (suc x) home e = refl
set_other (g ∷ homes) (suc i) zero home e = refl
set_other (g ∷ homes) (suc i) (suc x) home e = set_other homes i x home (let f : nat_eq i x ≡ nat_eq (suc i) (suc x) = grind arith in f ∙ e)

pub home_more : (bound : List Binding) (n i : ℕ) (d b : Binding) (old new : List (Option ℕ)) → 0 < i → i ≤ length bound → b ≡ slice_index_or bound (i - 1) d → AreHomes (drop i bound) n old → new ≡ slice_set old b.var b.home → AreHomes (drop (i - 1) bound) n new
home_more bound n i d b old new pos le e a f =
    let c = slice_index_or bound (i - 1) d in
    let next : suc (i - 1) ≡ i = omega arith in
    let front : drop (i - 1) bound ≡ b ∷ drop i bound = drop-cons bound (i - 1) d (omega arith) ∙ ap (λ k. c ∷ drop k bound) next ∙ sym (ap (λ (k : Binding). k ∷ drop i bound) e) in
    subst (λ bs. AreHomes bs n new) (sym front)
    (record {
      len = ap length f ∙ length-set old b.var b.home ∙ a.len;
      at = λ x h. ap (λ hs. home_at hs x) f ∙ by x h (nat_eq b.var x) refl;
    })
  where
    by : (x : ℕ) → x < n → (t : Bool) → nat_eq b.var x ≡ t → home_at (slice_set old b.var b.home) x ≡ cond t b.home (home_of (drop i bound) x)
    by x h true g =
        let same : b.var ≡ x = eqb-true b.var x g in
        let len = a.len in
        subst (λ y. home_at (slice_set old b.var b.home) y ≡ b.home) same (set_same old b.var b.home (omega (arith, h, same, len)))
    by x h false g = set_other old b.var x b.home g ∙ a.at x h

-- ---- Variables in order

pub variables_are : (bound : List Binding) (keys items : List ℕ) → AreSame keys (union_over (λ (b : Binding). b.var ∷ []) bound) → IsStrictlySortedBy nat_cmp keys → items ≡ keys → items ≡ union_over (λ (b : Binding). b.var ∷ []) bound
variables_are bound keys items s o e =
    e ∙ one_list 0 keys (union_over (λ (b : Binding). b.var ∷ []) bound) (sorted_ascending keys o) (over_ascending (λ (b : Binding). b.var ∷ []) (λ b. one_ascending b.var) bound) s

pub variable_more : (bound : List Binding) (i x : ℕ) (d b : Binding) (old new : List ℕ) → i < length bound → b ≡ slice_index_or bound i d → x ≡ b.var → AreSame old (union_over (λ (k : Binding). k.var ∷ []) (take i bound)) → AreSame new (union (x ∷ []) old) → AreSame new (union_over (λ (k : Binding). k.var ∷ []) (take (i + 1) bound))
variable_more bound i x d b old new lt e f h g =
    same_trans new (union (union_over F (take (i + 1) bound)) []) (union_over F (take (i + 1) bound))
    (over_more F bound i d b [] old new lt e (same_trans old (union_over F (take i bound)) (union (union_over F (take i bound)) []) h (λ z. sym (union_none (union_over F (take i bound)) [] refl z))) (subst (λ y. AreSame new (union (y ∷ []) old)) f g))
    (union_none (union_over F (take (i + 1) bound)) [] refl)
  where
    F : Binding → List ℕ
    F k = k.var ∷ []
