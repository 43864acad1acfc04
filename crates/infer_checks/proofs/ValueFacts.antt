-- What value declarations generalise, and their explicit type variables.
use Rattle.std.proofs.Common.{◌≡◌, ℕ, ◌<◌, Bool, true, false, List, [], ◌∷◌, length, Some, Option, refl, sym, ap, ◌∙◌, subst, inl, inr, ◌⊎◌, arith}
use Rattle.std.specs.List.{AllByRecursion}
use lib.Pointwise.{pointwise}
use Rattle.sml_tree.specs.declared.bare.Bare.{Bare}
use Rattle.sml_types.specs.declared.types.TyVar.{TyVar}
use Rattle.sml_types.specs.declared.types.TyForm.{TyForm}
use Rattle.sml_types.proofs.TreeFacts.{and_both}
use Rattle.sml_types.specs.NonExpansive.{AreNonExpansive}
use Rattle.sml_types.specs.Poly.{Poly, Context, is_in}
use Rattle.sml_unify.specs.Solved.{Substitution}
use Rattle.infer_parts.specs.Plain.{plain_at, IsPlainTable}
use Rattle.infer_state.specs.declared.settled.Settled.{Settled}
use Rattle.infer_state.specs.Fits.{settled_poly}
use Rattle.infer_state.specs.Typings.{var_at}
use Rattle.infer_checks.specs.Ending.{Decides, Lists, HasVars, IsOpenNumber, IsOpenName, IsOutside, IsNewAround, IsNameKnown}
use Rattle.infer_checks.specs.Node.{general_vars, IsGeneralised, IsLeftOut, MayBeLeftOut, AreLeftOut, MayBeAllLeftOut, IsDeclaredWell, MayBeDeclared}

-- a name leaves out what is not among the numbers that it leaves open
pub left_out_of : (p : Bare) (known : ℕ → Option Poly) (f : Substitution) (x : ℕ) (q : Poly) (os us : List ℕ) (b : Bool) → known x ≡ Some q → Lists (IsOpenNumber f q) os → Decides (AllByRecursion (IsOutside os []) us) (AllByRecursion (λ u. u < length p.tyvars → IsOutside os [] u) us) b → Decides (AllByRecursion (IsLeftOut known f x) us) (AllByRecursion (MayBeLeftOut p known f x) us) b
left_out_of p known f x q os us true e lists h = all us h
  where
    all : (vs : List ℕ) → AllByRecursion (IsOutside os []) vs → AllByRecursion (IsLeftOut known f x) vs
    all [] k = tt
    all (v ∷ vs) k = ((q, e, λ o. let clash : true ≡ false = sym (lists.all v o) ∙ k.0.0 in cc), all vs k.1)
left_out_of p known f x q os us false e lists h = λ k. h (all us k)
  where
    not_in : (v : ℕ) (b : Bool) → is_in os v ≡ b → (IsOpenName known f x v → ⊥) → b ≡ false
    not_in v true z n = absurd (n (q, e, lists.only v z))
    not_in v false z n = refl

    all : (vs : List ℕ) → AllByRecursion (MayBeLeftOut p known f x) vs → AllByRecursion (λ u. u < length p.tyvars → IsOutside os [] u) vs
    all [] k = tt
    all (v ∷ vs) k = ((λ l. (not_in v (is_in os v) refl (k.0 l), refl)), all vs k.1)

-- where there are none, each name leaves all of them out
pub none_left_out : (known : ℕ → Option Poly) (f : Substitution) (us xs : List ℕ) → length us ≡ 0 → AreLeftOut known f us xs
none_left_out known f [] xs e = all xs
  where
    all : (ys : List ℕ) → AreLeftOut known f [] ys
    all [] = tt
    all (y ∷ ys) = (tt, all ys)
none_left_out known f (u ∷ us) xs e = absurd (omega arith)

pub declared_of : (p : Bare) (known : ℕ → Option Poly) (m f : Substitution) (c : Context) (us xs : List ℕ) (b : Bool) → AllByRecursion (IsNameKnown p m c) xs → AllByRecursion (IsNewAround p known f c) us → Decides (AreLeftOut known f us xs) (MayBeAllLeftOut p known f us xs) b → Decides (IsDeclaredWell p known m f c us xs) (MayBeDeclared p known m f c us xs) b
declared_of p known m f c us xs true named fresh out = record { mentioned = named; fresh = fresh; left_out = out }
declared_of p known m f c us xs false named fresh out = λ k. out k.left_out

-- what a right side generalises
pub general_of : (p : Bare) (known : ℕ → Option Poly) (f : Substitution) (general : List (Option (List TyVar))) (plain : List Bool) (c : Context) (right : ℕ) (vs : List TyVar) (names : List ℕ) → vs ≡ general_vars general right → IsPlainTable p.nodes plain → (vs ≡ []) ⊎ (plain_at plain right ≡ true) → AllByRecursion (λ x. HasVars vs (known x)) names → AllByRecursion (λ v. IsNewAround p known f c (var_at v (f v)).num) vs → IsGeneralised p known f general c right names
general_of p known f general plain c right vs names e table may named fresh =
    record {
      fresh = subst (λ (ws : List TyVar). AllByRecursion (λ v. IsNewAround p known f c (var_at v (f v)).num) ws) e fresh;
      plain = side may;
      same = subst (λ (ws : List TyVar). AllByRecursion (λ x. HasVars ws (known x)) names) e named;
    }
  where
    side : (vs ≡ []) ⊎ (plain_at plain right ≡ true) → (general_vars general right ≡ []) ⊎ AreNonExpansive p.nodes (right ∷ [])
    side (inl z) = inl (sym e ∙ z)
    side (inr z) = inr (table.sound right z)

-- a name that is settled at a scheme with these variables
pub vars_at : (forms : List TyForm) (o : Option Settled) (q : Settled) (vs : List TyVar) → o ≡ Some q → q.scheme.vars ≡ vs → HasVars vs (settled_poly forms o)
vars_at forms o q vs e h = subst (λ r. HasVars vs (settled_poly forms r)) (sym e) h

-- lists whose items are the same
pub vars_same : (same : TyVar → TyVar → Bool) → ((v w : TyVar) → same v w ≡ true → v ≡ w) → (vs ws : List TyVar) → pointwise same vs ws ≡ true → vs ≡ ws
vars_same same h [] [] e = refl
vars_same same h [] (w ∷ ws) e = cc
vars_same same h (v ∷ vs) [] e = cc
vars_same same h (v ∷ vs) (w ∷ ws) e =
    let b = and_both (same v w) (pointwise same vs ws) e in
    ap (λ (u : TyVar). u ∷ vs) (h v w b.0) ∙ ap (λ (us : List TyVar). w ∷ us) (vars_same same h vs ws b.1)
