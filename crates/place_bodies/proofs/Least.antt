-- The least free place depends on the set of places that are taken.
use Rattle.std.proofs.Common.{◌≡◌, ℕ, ◌<◌, ◌≤◌, Bool, true, false, List, map, refl, sym, ◌∙◌, subst, arith, ⊎_elim}
use Rattle.simulation.specs.Blocks.{IsAmong}
use Rattle.simulation.proofs.Lists.{among_map, map_among}
use Rattle.place_laws.specs.Live.{is_in}
use Rattle.place_laws.specs.Place.{least_free}
use Rattle.place_laws.proofs.Places.{among_in, in_among, free_fresh, lt_or_not}
use Rattle.place_laws.proofs.Bounds.{below_least}
use Rattle.closed_live.specs.Same.{AreSame}

abbrev pub IsWithin : List ℕ → List ℕ → Type 0
IsWithin xs ys = (y : ℕ) → IsAmong y xs → IsAmong y ys

pub same_within : (xs ys : List ℕ) → AreSame xs ys → IsWithin xs ys
same_within xs ys s y m = in_among y ys (sym (s y) ∙ among_in y xs m)

pub within_same : (xs ys : List ℕ) → IsWithin xs ys → IsWithin ys xs → AreSame xs ys
within_same xs ys f g z = by (is_in z xs) (is_in z ys) refl refl
  where
    by : (a b : Bool) → is_in z xs ≡ a → is_in z ys ≡ b → a ≡ b
    by true true d e = refl
    by false false d e = refl
    by true false d e = absurd (let t : false ≡ true = sym e ∙ among_in z ys (f z (in_among z xs d)) in cc)
    by false true d e = absurd (let t : false ≡ true = sym d ∙ among_in z xs (g z (in_among z ys e)) in cc)

pub map_same : (f : ℕ → ℕ) (xs ys : List ℕ) → AreSame xs ys → AreSame (map f xs) (map f ys)
map_same f xs ys s = within_same (map f xs) (map f ys) (on xs ys (same_within xs ys s)) (on ys xs (same_within ys xs (λ z. sym (s z))))
  where
    on : (us vs : List ℕ) → IsWithin us vs → IsWithin (map f us) (map f vs)
    on us vs h y m = let r = among_map f y us m in subst (λ t. IsAmong t (map f vs)) (sym r.2) (map_among f r.0 vs (h r.0 r.1))

not_less : (xs ys : List ℕ) → IsWithin ys xs → least_free ys ≤ least_free xs
not_less xs ys g =
    ⊎_elim (λ (l : least_free xs < least_free ys). absurd (free_fresh xs (least_free xs) (g (least_free xs) (below_least ys (least_free xs) l)) refl))
    (λ (l : least_free ys ≤ least_free xs). l) (lt_or_not (least_free xs) (least_free ys))

pub least_same : (xs ys : List ℕ) → AreSame xs ys → least_free xs ≡ least_free ys
least_same xs ys s =
    let a : least_free ys ≤ least_free xs = not_less xs ys (same_within ys xs (λ z. sym (s z))) in
    let b : least_free xs ≤ least_free ys = not_less ys xs (same_within xs ys s) in
    omega arith
