-- Ordered sets as lists with the same members.
use Rattle.std.proofs.Common.{◌≡◌, ℕ, Bool, true, false, List, [], ◌∷◌, ◌++◌, cond, refl, sym, ap, ◌∙◌, subst, arith}
use Rattle.std.specs.Prelude.{nat_eq, ◌||◌}
use Rattle.std.specs.List.{list_any}
use Rattle.std.specs.Ordering.{nat_cmp}
use Rattle.std.specs.Cmp.{unsigned_tied}
use Rattle.std.specs.BTreeMap.{is_at}
use Rattle.std.proofs.lemmas.Bool.{eqb-true}
use Rattle.place_laws.specs.Live.{is_in, without, without_all}
use Rattle.closed_live.specs.Same.{AreSame}

eq_sym : (x y : ℕ) → nat_eq x y ≡ nat_eq y x
eq_sym x y = grind arith

-- a set's own test of a member
pub member : (q : ℕ) (xs : List ℕ) → list_any (is_at (nat_cmp q)) xs ≡ is_in q xs
member q [] = refl
member q (y ∷ ys) = ap (λ b. b || list_any (is_at (nat_cmp q)) ys) (unsigned_tied q y ∙ eq_sym q y) ∙ ap (λ b. nat_eq y q || b) (member q ys)

-- ---- Members of lists that are made of others

or_assoc : (a b c : Bool) → (a || (b || c)) ≡ ((a || b) || c)
or_assoc true b c = refl
or_assoc false b c = refl

pub in_append : (xs ys : List ℕ) (z : ℕ) → is_in z (xs ++ ys) ≡ (is_in z xs || is_in z ys)
in_append [] ys z = refl
in_append (x ∷ xs) ys z = ap (λ b. nat_eq x z || b) (in_append xs ys z) ∙ or_assoc (nat_eq x z) (is_in z xs) (is_in z ys)

pub in_without : (x : ℕ) (ys : List ℕ) (z : ℕ) → is_in z (without x ys) ≡ cond (nat_eq x z) false (is_in z ys)
in_without x [] z = by (nat_eq x z)
  where
    by : (c : Bool) → false ≡ cond c false false
    by true = refl
    by false = refl
in_without x (y ∷ ys) z = by (in_without x ys z) (nat_eq y x) refl
  where
    tie : (c : Bool) → cond c false (is_in z ys) ≡ cond c false (c || is_in z ys)
    tie true = refl
    tie false = refl

    other : (c : Bool) → nat_eq x z ≡ c → nat_eq y x ≡ false → (nat_eq y z || cond c false (is_in z ys)) ≡ cond c false (nat_eq y z || is_in z ys)
    other true f e = let s : x ≡ z = eqb-true x z f in ap (λ w. nat_eq y w || false) (sym s) ∙ ap (λ b. b || false) e
    other false f e = refl

    by : is_in z (without x ys) ≡ cond (nat_eq x z) false (is_in z ys) → (a : Bool) → nat_eq y x ≡ a → is_in z (cond a (without x ys) (y ∷ without x ys)) ≡ cond (nat_eq x z) false (nat_eq y z || is_in z ys)
    by rest true e =
        let same : y ≡ x = eqb-true y x e in
        rest ∙ subst (λ w. cond (nat_eq x z) false (is_in z ys) ≡ cond (nat_eq x z) false (nat_eq w z || is_in z ys)) (sym same) (tie (nat_eq x z))
    by rest false e = ap (λ b. nat_eq y z || b) rest ∙ other (nat_eq x z) refl e

pub in_without_all : (xs ys : List ℕ) (z : ℕ) → is_in z (without_all xs ys) ≡ cond (is_in z xs) false (is_in z ys)
in_without_all [] ys z = refl
in_without_all (x ∷ xs) ys z = in_without x (without_all xs ys) z ∙ ap (cond (nat_eq x z) false) (in_without_all xs ys z) ∙ by (nat_eq x z)
  where
    by : (c : Bool) → cond c false (cond (is_in z xs) false (is_in z ys)) ≡ cond (c || is_in z xs) false (is_in z ys)
    by true = refl
    by false = refl

-- ---- The same members

pub same_trans : (xs ys zs : List ℕ) → AreSame xs ys → AreSame ys zs → AreSame xs zs
same_trans xs ys zs f g z = f z ∙ g z

pub append_same : (us vs xs ys : List ℕ) → AreSame us vs → AreSame xs ys → AreSame (us ++ xs) (vs ++ ys)
append_same us vs xs ys f g z = in_append us xs z ∙ ap (λ b. b || is_in z xs) (f z) ∙ ap (λ b. is_in z vs || b) (g z) ∙ sym (in_append vs ys z)

pub behind_same : (us xs ys : List ℕ) → AreSame xs ys → AreSame (us ++ xs) (us ++ ys)
behind_same us xs ys g = append_same us us xs ys (λ z. refl) g

pub without_same : (x : ℕ) (xs ys : List ℕ) → AreSame xs ys → AreSame (without x xs) (without x ys)
without_same x xs ys h z = in_without x xs z ∙ ap (cond (nat_eq x z) false) (h z) ∙ sym (in_without x ys z)

pub without_all_same : (gone xs ys : List ℕ) → AreSame xs ys → AreSame (without_all gone xs) (without_all gone ys)
without_all_same [] xs ys h = h
without_all_same (x ∷ gone) xs ys h = without_same x (without_all gone xs) (without_all gone ys) (without_all_same gone xs ys h)

pub assoc_same : (us vs xs : List ℕ) → AreSame (us ++ (vs ++ xs)) ((us ++ vs) ++ xs)
assoc_same us vs xs z =
    in_append us (vs ++ xs) z ∙ ap (λ b. is_in z us || b) (in_append vs xs z) ∙ or_assoc (is_in z us) (is_in z vs) (is_in z xs) ∙ sym (ap (λ b. b || is_in z xs) (in_append us vs z)) ∙ sym (in_append (us ++ vs) xs z)

pub swap_same : (us vs xs : List ℕ) → AreSame (us ++ (vs ++ xs)) (vs ++ (us ++ xs))
swap_same us vs xs z =
    in_append us (vs ++ xs) z ∙ ap (λ b. is_in z us || b) (in_append vs xs z) ∙ swap (is_in z us) (is_in z vs) (is_in z xs) ∙ sym (ap (λ b. is_in z vs || b) (in_append us xs z)) ∙ sym (in_append vs (us ++ xs) z)
  where
    swap : (a b c : Bool) → (a || (b || c)) ≡ (b || (a || c))
    swap true true c = refl
    swap true false c = refl
    swap false b c = refl

-- ---- A set that changes

pub inserted : (x : ℕ) (old new : List ℕ) → ((q : ℕ) → list_any (is_at (nat_cmp q)) new ≡ cond (is_at (nat_cmp x) q) true (list_any (is_at (nat_cmp q)) old)) → AreSame new (x ∷ old)
inserted x old new h z =
    sym (member z new) ∙ h z ∙ ap (λ b. cond b true (list_any (is_at (nat_cmp z)) old)) (unsigned_tied x z) ∙ ap (cond (nat_eq x z) true) (member z old) ∙ by (nat_eq x z)
  where
    by : (b : Bool) → cond b true (is_in z old) ≡ (b || is_in z old)
    by true = refl
    by false = refl

pub removed : (x : ℕ) (old new : List ℕ) → ((q : ℕ) → list_any (is_at (nat_cmp q)) new ≡ cond (is_at (nat_cmp x) q) false (list_any (is_at (nat_cmp q)) old)) → AreSame new (without x old)
removed x old new h z =
    sym (member z new) ∙ h z ∙ ap (λ b. cond b false (list_any (is_at (nat_cmp z)) old)) (unsigned_tied x z) ∙ ap (cond (nat_eq x z) false) (member z old) ∙ sym (in_without x old z)
