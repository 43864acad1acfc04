-- The bindings of an acyclic substitution have a solution: what they mean.
use Rattle.std.proofs.Common.{◌≡◌, ℕ, zero, suc, ◌+◌, ◌<◌, ◌≤◌, Bool, true, false, List, [], ◌∷◌, length, Option, Some, None, refl, sym, ap, ◌∙◌, arith}
use Rattle.std.specs.Prelude.{ltb, cond}
use Rattle.std.proofs.lemmas.Bool.Decides.{nat_tests}
use Rattle.sml_types.specs.declared.types.Ty.{Ty}
use Rattle.sml_types.specs.declared.types.TyVar.{TyVar}
use Rattle.sml_types.specs.declared.types.TyForm.{TyForm}
use Rattle.sml_types.specs.Tree.{Variable, inst}
use Rattle.sml_types.specs.Forms.{tree}
use Rattle.sml_types.proofs.TreeFacts.{inst_same}
use Rattle.sml_unify.specs.Solved.{bound_at, Solves, IsAcyclic, put, rounds, meant}

-- how many numbers below n have a lower rank
abbrev pub below : (ℕ → ℕ) → ℕ → ℕ → ℕ
below r zero x = 0
below r (suc n) x = cond (ltb (r n) (r x)) 1 0 + below r n x

below_mono : (r : ℕ → ℕ) (n x y : ℕ) → r y ≤ r x → below r n y ≤ below r n x
below_mono r zero x y h = omega arith
below_mono r (suc n) x y h = let k = below_mono r n x y h in grind (arith, nat_tests)

-- a lower rank has fewer below it
pub below_less : (r : ℕ → ℕ) (n x y : ℕ) → y < n → r y < r x → below r n y < below r n x
below_less r zero x y m h = absurd (omega arith)
below_less r (suc n) x y m h = go (ltb y n) refl (below_less r n x y) (below_mono r n x y (omega arith))
  where
    go : (b : Bool) → ltb y n ≡ b → (y < n → r y < r x → below r n y < below r n x) → below r n y ≤ below r n x → below r (suc n) y < below r (suc n) x
    go true e f k = let w : y < n = grind (arith, nat_tests) in let q = f w h in grind (arith, nat_tests)
    go false e f k = let w : y ≡ n = grind (arith, nat_tests) in grind (arith, nat_tests)

below_most : (r : ℕ → ℕ) (n x : ℕ) → below r n x ≤ n
below_most r zero x = omega arith
below_most r (suc n) x = let k = below_most r n x in grind (arith, nat_tests)

pub below_all : (r : ℕ → ℕ) (n x : ℕ) → x < n → below r n x < n
below_all r zero x h = absurd (omega arith)
below_all r (suc n) x h = go (ltb x n) refl (below_all r n x) (below_most r n x)
  where
    go : (b : Bool) → ltb x n ≡ b → (x < n → below r n x < n) → below r n x ≤ n → below r (suc n) x < suc n
    go true e f k = let w : x < n = grind (arith, nat_tests) in let q = f w in grind (arith, nat_tests)
    go false e f k = let w : x ≡ n = grind (arith, nat_tests) in grind (arith, nat_tests)

-- a number that is bound is below the length
pub bound_within : (bound : List (Option Ty)) (x : ℕ) (t : Ty) → bound_at bound x ≡ Some t → x < length bound
bound_within [] x t e = cc
bound_within (b ∷ bound) zero t e = omega arith
bound_within (b ∷ bound) (suc x) t e = let k = bound_within bound x t e in omega arith

-- a number is bound or not
pub bound_cases : (bound : List (Option Ty)) (x : ℕ) (P : Type 0) → (bound_at bound x ≡ None → P) → ((t : Ty) → bound_at bound x ≡ Some t → P) → P
bound_cases bound x P f g = go (bound_at bound x) refl
  where
    go : (o : Option Ty) → bound_at bound x ≡ o → P
    go None e = f e
    go (Some t) e = g t e

module _ (forms : List TyForm) (bound : List (Option Ty)) where
  pub rounds_zero : (v : TyVar) → rounds forms bound 0 v ≡ Variable v
  unfolding rounds
  rounds_zero v = refl

  pub rounds_free : (k : ℕ) (v : TyVar) → bound_at bound v.num ≡ None → rounds forms bound k v ≡ Variable v
  unfolding rounds
  rounds_free zero v e = refl
  rounds_free (suc k) v e = ap (λ o. put (rounds forms bound k) (tree forms) o v) e

  pub rounds_bound : (k : ℕ) (v : TyVar) (t : Ty) → bound_at bound v.num ≡ Some t → rounds forms bound (suc k) v ≡ inst (rounds forms bound k) (tree forms t.0)
  unfolding rounds
  rounds_bound k v t e = ap (λ o. put (rounds forms bound k) (tree forms) o v) e

  module _ (a : IsAcyclic forms bound) where
    place : ℕ → ℕ
    place x = below a.0 (length bound) x

    -- more rounds change nothing
    settled : (k : ℕ) (v : TyVar) → ((t : Ty) → bound_at bound v.num ≡ Some t → below a.0 (length bound) v.num < k) → rounds forms bound (suc k) v ≡ rounds forms bound k v
    settled zero v h =
        bound_cases bound v.num (rounds forms bound 1 v ≡ rounds forms bound 0 v) (λ e. rounds_free 1 v e ∙ sym (rounds_free 0 v e)) (λ t e. let w = h t e in absurd (omega arith))
    settled (suc k) v h =
        bound_cases
        bound
        v.num
        (rounds forms bound (suc (suc k)) v ≡ rounds forms bound (suc k) v)
        (λ e. rounds_free (suc (suc k)) v e ∙ sym (rounds_free (suc k) v e))
        (λ t e. let w = h t e in
        rounds_bound (suc k) v t e
        ∙ inst_same (rounds forms bound (suc k)) (rounds forms bound k) (tree forms t.0) (λ u o. settled k u (λ s q. let z = below_less a.0 (length bound) v.num u.num (bound_within bound u.num s q) (a.1 v.num u.num t e o) in omega arith))
        ∙ sym (rounds_bound k v t e))

    -- the substitution that is meant is a solution
    pub meant_solves : Solves forms bound (meant forms bound)
    unfolding meant
    meant_solves i v t q e =
        sym (settled (length bound) v (λ s q. below_all a.0 (length bound) v.num (bound_within bound v.num s q)))
        ∙ rounds_bound (length bound) v t e

    pub meant_bound : (v : TyVar) (t : Ty) → bound_at bound v.num ≡ Some t → meant forms bound v ≡ inst (meant forms bound) (tree forms t.0)
    unfolding meant
    meant_bound v t e =
        sym (settled (length bound) v (λ s q. below_all a.0 (length bound) v.num (bound_within bound v.num s q)))
        ∙ rounds_bound (length bound) v t e

  pub meant_free : (v : TyVar) → bound_at bound v.num ≡ None → meant forms bound v ≡ Variable v
  unfolding meant
  meant_free v e = rounds_free (length bound) v e
