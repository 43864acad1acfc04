-- Numbers one behind the other.
use Rattle.std.proofs.Common.{◌≡◌, ℕ, zero, suc, ◌<◌, ◌+◌, Bool, true, false, List, [], ◌∷◌, length, refl, ap, subst, ◌∙◌, arith, eq-eqb}
use Rattle.std.specs.Prelude.{nat_eq, ◌||◌}
use Rattle.sml_tree.specs.Sets.{has}
use Rattle.sml_tree.specs.IsBare.{Consecutive}

or_true : (b : Bool) → (b || true) ≡ true
or_true false = refl
or_true true = refl

-- each from the first to the last stands among them
pub stands_among : (k i : ℕ) (xs : List ℕ) → k < length xs → Consecutive i xs → has xs (i + k) ≡ true
stands_among k i [] l h = absurd (omega (arith, l))
stands_among zero i (y ∷ ys) l h = let e = h.0 in ap (λ w. w || has ys (i + 0)) (eq-eqb (i + 0) y (omega (arith, e)))
stands_among (suc k) i (y ∷ ys) l h =
    let e : suc i + k ≡ i + suc k = omega arith in
    subst (λ w. (nat_eq w y || has ys w) ≡ true) e (ap (λ w. nat_eq (suc i + k) y || w) (stands_among k (suc i) ys (omega (arith, l)) h.1) ∙ or_true (nat_eq (suc i + k) y))
