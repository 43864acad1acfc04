-- Ordered sets as lists with the same members.
use Rattle.std.proofs.Common.{◌≡◌, ℕ, suc, ◌≤◌, ◌<◌, Bool, true, false, List, [], ◌∷◌, cond, refl, sym, ap, ◌∙◌, subst, arith}
use Rattle.std.specs.Prelude.{nat_eq, nat_lt, not, ◌&&◌, ◌||◌}
use Rattle.std.specs.declared.cmp.Ordering.TheVariants.{Less, Equal, Greater}
use Rattle.std.specs.List.{list_any, AllByRecursion}
use Rattle.std.specs.List.Sorted.{IsStrictlySortedBy}
use Rattle.std.specs.Ordering.{nat_cmp}
use Rattle.std.specs.Cmp.{unsigned_tied}
use Rattle.std.specs.BTreeMap.{is_at}
use Rattle.std.proofs.lemmas.Bool.{ltb-true}
use Rattle.sml_tree.specs.Sets.{has, union, without}
use Rattle.sml_tree.specs.IsBare.{IsAscending}
use Rattle.sml_tree.proofs.Members.{has-union, has-without}
use Rattle.cps_free.specs.Same.{AreSame}

any_same : (f g : ℕ → Bool) → ((k : ℕ) → f k ≡ g k) → (xs : List ℕ) → list_any f xs ≡ list_any g xs
any_same f g h [] = refl
any_same f g h (x ∷ xs) = ap (λ b. b || list_any f xs) (h x) ∙ ap (λ b. g x || b) (any_same f g h xs)

-- a set's own test of a member
member : (q : ℕ) (xs : List ℕ) → list_any (is_at (nat_cmp q)) xs ≡ has xs q
member q xs = any_same (is_at (nat_cmp q)) (nat_eq q) (unsigned_tied q) xs

eq_sym : (x y : ℕ) → nat_eq x y ≡ nat_eq y x
eq_sym x y = grind arith

pub inserted : (x : ℕ) (old new : List ℕ) → ((q : ℕ) → list_any (is_at (nat_cmp q)) new ≡ cond (is_at (nat_cmp x) q) true (list_any (is_at (nat_cmp q)) old)) → AreSame new (union (x ∷ []) old)
inserted x old new h z =
    sym (member z new) ∙ h z ∙ ap (λ b. cond b true (list_any (is_at (nat_cmp z)) old)) (unsigned_tied x z ∙ eq_sym x z) ∙ ap (cond (nat_eq z x) true) (member z old) ∙ by (nat_eq z x) ∙ sym (has-union (x ∷ []) old z)
  where
    by : (b : Bool) → cond b true (has old z) ≡ ((b || false) || has old z)
    by true = refl
    by false = refl

pub removed : (x : ℕ) (old new : List ℕ) → ((q : ℕ) → list_any (is_at (nat_cmp q)) new ≡ cond (is_at (nat_cmp x) q) false (list_any (is_at (nat_cmp q)) old)) → AreSame new (without old (x ∷ []))
removed x old new h z =
    sym (member z new) ∙ h z ∙ ap (λ b. cond b false (list_any (is_at (nat_cmp z)) old)) (unsigned_tied x z ∙ eq_sym x z) ∙ ap (cond (nat_eq z x) false) (member z old) ∙ by (nat_eq z x) ∙ sym (has-without old (x ∷ []) z)
  where
    by : (b : Bool) → cond b false (has old z) ≡ (not (b || false) && has old z)
    by true = refl
    by false = refl

-- ---- Order

sorted_from : (lo : ℕ) (xs : List ℕ) → AllByRecursion (λ y. lo ≤ y) xs → IsStrictlySortedBy nat_cmp xs → IsAscending lo xs
unfolding IsStrictlySortedBy
sorted_from lo [] b s = tt
sorted_from lo (x ∷ xs) b s = (b.0, sorted_from (suc x) xs (above xs s.0) s.1)
  where
    less : (y : ℕ) → nat_cmp x y ≡ Less → suc x ≤ y
    less y e = by (nat_lt x y) refl e
      where
        next : (d : Bool) → cond d Equal Greater ≡ Less → ⊥
        next true f = cc
        next false f = cc

        by : (a : Bool) → nat_lt x y ≡ a → cond a Less (cond (nat_eq x y) Equal Greater) ≡ Less → suc x ≤ y
        by true f g = ltb-true x y f
        by false f g = absurd (next (nat_eq x y) g)

    above : (ys : List ℕ) → AllByRecursion (λ y. nat_cmp x y ≡ Less) ys → AllByRecursion (λ y. suc x ≤ y) ys
    above [] h = tt
    above (y ∷ ys) h = (less y h.0, above ys h.1)

pub sorted_ascending : (xs : List ℕ) → IsStrictlySortedBy nat_cmp xs → IsAscending 0 xs
sorted_ascending xs s = sorted_from 0 xs (every xs) s
  where
    every : (ys : List ℕ) → AllByRecursion (λ y. 0 ≤ y) ys
    every [] = tt
    every (y ∷ ys) = (omega arith, every ys)

below_all : (lo : ℕ) (xs : List ℕ) (z : ℕ) → IsAscending lo xs → z < lo → has xs z ≡ false
below_all lo [] z a h = refl
below_all lo (x ∷ xs) z a h =
    let e : nat_eq z x ≡ false = (let g : lo ≤ x = a.0 in grind arith) in
    ap (λ b. b || has xs z) e ∙ below_all (suc x) xs z a.1 (let g : lo ≤ x = a.0 in omega arith)

first_same : (lo x y : ℕ) (xs ys : List ℕ) → IsAscending lo (x ∷ xs) → IsAscending lo (y ∷ ys) → AreSame (x ∷ xs) (y ∷ ys) → x ≤ y
first_same lo x y xs ys a b s = by (nat_lt y x) refl
  where
    self : nat_eq y y ≡ true
    self = grind arith

    by : (t : Bool) → nat_lt y x ≡ t → x ≤ y
    by true e =
        let lt : y < x = ltb-true y x e in
        let out : has (x ∷ xs) y ≡ false = below_all x (x ∷ xs) y (omega arith, a.1) lt in
        let here : has (y ∷ ys) y ≡ true = ap (λ t. t || has ys y) self in
        absurd (let f : false ≡ true = sym out ∙ s y ∙ here in cc)
    by false e = grind arith

-- ascending lists with the same members are one
pub one_list : (lo : ℕ) (xs ys : List ℕ) → IsAscending lo xs → IsAscending lo ys → AreSame xs ys → xs ≡ ys
one_list lo [] [] a b s = refl
one_list lo [] (y ∷ ys) a b s = absurd (let f : false ≡ (nat_eq y y || has ys y) = s y in let e : nat_eq y y ≡ true = grind arith in let g : false ≡ true = f ∙ ap (λ t. t || has ys y) e in cc)
one_list lo (x ∷ xs) [] a b s = absurd (let f : (nat_eq x x || has xs x) ≡ false = s x in let e : nat_eq x x ≡ true = grind arith in let g : false ≡ true = sym f ∙ ap (λ t. t || has xs x) e in cc)
one_list lo (x ∷ xs) (y ∷ ys) a b s =
    let one : x ≤ y = first_same lo x y xs ys a b s in
    let other : y ≤ x = first_same lo y x ys xs b a (λ z. sym (s z)) in
    let same : x ≡ y = omega arith in
    let later : xs ≡ ys = one_list (suc x) xs ys a.1 (subst (λ z. IsAscending (suc z) ys) (sym same) b.1) (λ z. rest z same) in
    ap (λ z. z ∷ xs) same ∙ ap (λ zs. y ∷ zs) later
  where
    rest : (z : ℕ) → x ≡ y → has xs z ≡ has ys z
    rest z same = by (nat_lt x z) refl
      where
        by : (t : Bool) → nat_lt x z ≡ t → has xs z ≡ has ys z
        by true e =
            let lt : x < z = ltb-true x z e in
            let p : nat_eq z x ≡ false = grind arith in
            let q : nat_eq z y ≡ false = grind arith in
            sym (ap (λ b. b || has xs z) p) ∙ s z ∙ ap (λ b. b || has ys z) q
        by false e =
            let le : z < suc x = grind arith in
            below_all (suc x) xs z a.1 le ∙ sym (below_all (suc y) ys z b.1 (omega arith))
