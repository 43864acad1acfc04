-- Which numbers are in a set.
use Rattle.std.proofs.Common.{◌≡◌, ℕ, List, [], ◌∷◌, Bool, true, false, refl, sym, ap, ◌∙◌}
use Rattle.std.specs.Prelude.{nat_lt, nat_eq, not, ◌&&◌, ◌||◌, if◌then◌else◌}
use Rattle.std.specs.List.{list_any}
use Rattle.std.proofs.lemmas.Bool.{eqb-true}
use Rattle.std.proofs.lemmas.Map.Views.{any-filter_same}
use Rattle.sml_tree.specs.Sets.{has, merge, union, union_over, without}

or_swap : (a b c : Bool) → (a || (b || c)) ≡ (b || (a || c))
or_swap true true c = refl
or_swap true false c = refl
or_swap false b c = refl

or_assoc : (a b c : Bool) → ((a || b) || c) ≡ (a || (b || c))
or_assoc true b c = refl
or_assoc false b c = refl

or_comm : (a b : Bool) → (a || b) ≡ (b || a)
or_comm true true = refl
or_comm true false = refl
or_comm false true = refl
or_comm false false = refl

or_both : (a b d : Bool) → (a || (b || d)) ≡ ((a || b) || (a || d))
or_both true b d = refl
or_both false b d = refl

has-merge : (x : ℕ) (xs : List ℕ) (rest : List ℕ → List ℕ) (z : ℕ) → ((ys : List ℕ) → has (rest ys) z ≡ (has xs z || has ys z)) → (ys : List ℕ) → has (merge x rest ys) z ≡ ((nat_eq z x || has xs z) || has ys z)
has-merge x xs rest z h [] = ap (λ w. nat_eq z x || w) (h []) ∙ sym (or_assoc (nat_eq z x) (has xs z) false)
has-merge x xs rest z h (y ∷ ys) = go (nat_lt x y) (nat_eq x y) refl (has-merge x xs rest z h ys)
  where
    go : (a b : Bool) → nat_eq x y ≡ b → has (merge x rest ys) z ≡ ((nat_eq z x || has xs z) || has ys z) → has (if a then x ∷ rest (y ∷ ys) else if b then x ∷ rest ys else y ∷ merge x rest ys) z ≡ ((nat_eq z x || has xs z) || (nat_eq z y || has ys z))
    go true b e m = ap (λ w. nat_eq z x || w) (h (y ∷ ys)) ∙ sym (or_assoc (nat_eq z x) (has xs z) (nat_eq z y || has ys z))
    go false true e m =
        let same : x ≡ y = eqb-true x y e in
        ap (λ w. nat_eq z x || w) (h ys) ∙ or_both (nat_eq z x) (has xs z) (has ys z) ∙ ap (λ w. (nat_eq z x || has xs z) || (nat_eq z w || has ys z)) same
    go false false e m = ap (λ w. nat_eq z y || w) m ∙ or_swap (nat_eq z y) (nat_eq z x || has xs z) (has ys z)

pub has-union : (xs ys : List ℕ) (z : ℕ) → has (union xs ys) z ≡ (has xs z || has ys z)
has-union [] ys z = refl
has-union (x ∷ xs) ys z = has-merge x xs (union xs) z (λ ys. has-union xs ys z) ys

pub has-without : (xs gone : List ℕ) (z : ℕ) → has (without xs gone) z ≡ (not (has gone z) && has xs z)
has-without xs gone z =
    any-filter_same (nat_eq z) (λ x. not (has gone x)) (not (has gone z)) (λ k e. ap (λ x. not (has gone x)) (sym (eqb-true z k e))) xs

-- a member of a union over a list is one of an item's set
pub has-union_over : {B : Type 0} (f : B → List ℕ) (xs : List B) (z : ℕ) → has (union_over f xs) z ≡ list_any (λ x. has (f x) z) xs
has-union_over f [] z = refl
has-union_over f (x ∷ xs) z = has-union (f x) (union_over f xs) z ∙ ap (λ w. has (f x) z || w) (has-union_over f xs z)

-- of two tests one holds
pub either : (a b : Bool) (P : Type 0) → (a || b) ≡ true → (a ≡ true → P) → (b ≡ true → P) → P
either true b P h f g = f refl
either false b P h f g = g h

pub or_left : (a b : Bool) → a ≡ true → (a || b) ≡ true
or_left a b h = ap (λ w. w || b) h

pub or_right : (a b : Bool) → b ≡ true → (a || b) ≡ true
or_right true b h = refl
or_right false b h = h

-- a number is in the set or not
pub in_or_not : (xs : List ℕ) (z : ℕ) (P : Type 0) → (has xs z ≡ true → P) → (has xs z ≡ false → P) → P
in_or_not xs z P f g = go (has xs z) refl
  where
    go : (b : Bool) → has xs z ≡ b → P
    go true e = f e
    go false e = g e

-- each member of the one is a member of the other
abbrev pub IsWithin : List ℕ → List ℕ → Type 0
IsWithin xs ys = (z : ℕ) → has xs z ≡ true → has ys z ≡ true

pub within_trans : (xs ys zs : List ℕ) → IsWithin xs ys → IsWithin ys zs → IsWithin xs zs
within_trans xs ys zs f g z h = g z (f z h)

pub within_left : (xs ys : List ℕ) → IsWithin xs (union xs ys)
within_left xs ys z h = has-union xs ys z ∙ or_left (has xs z) (has ys z) h

pub within_right : (xs ys : List ℕ) → IsWithin ys (union xs ys)
within_right xs ys z h = has-union xs ys z ∙ or_right (has xs z) (has ys z) h

pub within_both : (xs ys zs : List ℕ) → IsWithin xs zs → IsWithin ys zs → IsWithin (union xs ys) zs
within_both xs ys zs f g z h =
    either (has xs z) (has ys z) (has zs z ≡ true) (sym (has-union xs ys z) ∙ h) (f z) (g z)

pub within_rest : (xs gone : List ℕ) (z : ℕ) → has xs z ≡ true → has gone z ≡ false → has (without xs gone) z ≡ true
within_rest xs gone z h g = has-without xs gone z ∙ ap (λ w. not w && has xs z) g ∙ h

pub within_head : {B : Type 0} (f : B → List ℕ) (x : B) (xs : List B) → IsWithin (f x) (union_over f (x ∷ xs))
within_head f x xs z h = has-union_over f (x ∷ xs) z ∙ or_left (has (f x) z) _ h

pub within_tail : {B : Type 0} (f : B → List ℕ) (x : B) (xs : List B) → IsWithin (union_over f xs) (union_over f (x ∷ xs))
within_tail f x xs z h =
    has-union_over f (x ∷ xs) z ∙ or_right (has (f x) z) (list_any (λ y. has (f y) z) xs) (sym (has-union_over f xs z) ∙ h)

pub within_each : {B : Type 0} (f g : B → List ℕ) (xs : List B) → ((x : B) → IsWithin (f x) (g x)) → IsWithin (union_over f xs) (union_over g xs)
within_each f g [] h z e = e
within_each f g (x ∷ xs) h z e =
    either (has (f x) z) (list_any (λ y. has (f y) z) xs) (has (union_over g (x ∷ xs)) z ≡ true) (sym (has-union_over f (x ∷ xs) z) ∙ e) (λ a. within_head g x xs z (h x z a)) (λ a. within_tail g x xs z (within_each f g xs h z (has-union_over f xs z ∙ a)))

pub without_parts : (xs gone : List ℕ) (z : ℕ) → has (without xs gone) z ≡ true → (has xs z ≡ true) × (has gone z ≡ false)
without_parts xs gone z h = go (has gone z) (has xs z) (sym (has-without xs gone z) ∙ h)
  where
    go : (g x : Bool) → (not g && x) ≡ true → (x ≡ true) × (g ≡ false)
    go true x e = cc
    go false x e = (e, refl)
