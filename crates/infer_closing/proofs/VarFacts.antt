-- Lists of variables that grow.
use Rattle.std.proofs.Common.{◌≡◌, ℕ, Bool, true, false, List, [], ◌∷◌, refl, sym, ap, ◌∙◌, inl, inr, nat_eq, cond, subst}
use Rattle.std.specs.Prelude.{◌||◌, ◌++◌}
use Rattle.std.specs.List.{AllByRecursion}
use Rattle.std.proofs.lemmas.Bool.{eq-eqb, eqb-true}
use Rattle.sml_types.specs.declared.types.TyVar.{TyVar}
use Rattle.sml_types.specs.declared.types.TyForm.{TyForm}
use Rattle.sml_types.specs.Tree.{Tree, AllVars}
use Rattle.sml_types.specs.Forms.{IsNamedOnce}
use Rattle.sml_types.specs.Poly.{has_num}
use Rattle.sml_types.specs.Typing.{IsAmong}
use Rattle.sml_types.proofs.TreeFacts.{or_none}
use Rattle.sml_unify.specs.Variables.{Stands, AreOnce, AreVariables}
use Rattle.infer_state.specs.Fits.{IsFormVar}
use Rattle.infer_closing.specs.Found.{with_var, with_vars, AreVars}
use Rattle.infer_closing.proofs.Trees.{at_among, from_among, among_front, among_back, has_among, at_standing}

-- ---- Variables, each once

has_append : (vs ws : List TyVar) (x : ℕ) → has_num vs x ≡ false → has_num ws x ≡ false → has_num (vs ++ ws) x ≡ false
has_append [] ws x e f = f
has_append (v ∷ vs) ws x e f = let n = or_none (nat_eq x v.num) (has_num vs x) e in ap (λ b. b || has_num (vs ++ ws) x) n.0 ∙ has_append vs ws x n.1 f

not_same : (x y : ℕ) → nat_eq x y ≡ false → nat_eq y x ≡ false
not_same x y e = go (nat_eq y x) refl
  where
    go : (b : Bool) → nat_eq y x ≡ b → b ≡ false
    go false q = refl
    go true q = let clash : false ≡ true = sym e ∙ eq-eqb x y (sym (eqb-true y x q)) in cc

once_last : (vs : List TyVar) (v : TyVar) → AreOnce vs → has_num vs v.num ≡ false → AreOnce (vs ++ v ∷ [])
once_last [] v h e = (refl, tt)
once_last (w ∷ vs) v h e =
    let n = or_none (nat_eq v.num w.num) (has_num vs v.num) e in
    (has_append vs (v ∷ []) w.num h.0 (ap (λ b. b || false) (not_same v.num w.num n.0)), once_last vs v h.1 n.1)

all_last : {A : Type 0} (P : A → Type 0) (xs : List A) (y : A) → AllByRecursion P xs → P y → AllByRecursion P (xs ++ y ∷ [])
all_last P [] y h k = (k, tt)
all_last P (x ∷ xs) y h k = (h.0, all_last P xs y h.1 k)

pub all_end : {A : Type 0} (P : A → Type 0) (xs : List A) (y : A) → AllByRecursion P xs → P y → AllByRecursion P (xs ++ y ∷ [])
all_end P xs y h k = all_last P xs y h k

module _ (forms : List TyForm) where
  with_are : (v : TyVar) (vs : List TyVar) → AreVars forms vs → IsFormVar forms v → AreVars forms (with_var v vs)
  with_are v vs a k = go (has_num vs v.num) refl
    where
      go : (b : Bool) → has_num vs v.num ≡ b → AreVars forms (cond b vs (vs ++ v ∷ []))
      go true e = a
      go false e = record { known = all_last (IsFormVar forms) vs v a.known k; once = once_last vs v a.once e }

  with_kept : (v u : TyVar) (vs : List TyVar) → IsAmong u vs → IsAmong u (with_var v vs)
  with_kept v u vs m = go (has_num vs v.num)
    where
      go : (b : Bool) → IsAmong u (cond b vs (vs ++ v ∷ []))
      go true = m
      go false = among_front vs (v ∷ []) u m

  with_there : IsNamedOnce forms → (v : TyVar) (vs : List TyVar) → AreVars forms vs → IsFormVar forms v → IsAmong v (with_var v vs)
  with_there named v vs a k = go (has_num vs v.num) refl
    where
      go : (b : Bool) → has_num vs v.num ≡ b → IsAmong v (cond b vs (vs ++ v ∷ []))
      go true e =
          let r = has_among vs v.num e in
          let l = at_among (IsFormVar forms) vs r.0 a.known r.1 in
          subst (λ (u : TyVar). IsAmong u vs) (sym (named k.0 l.0 v r.0 k.1 l.1 r.2)) r.1
      go false e = among_back vs (v ∷ []) v (inl refl)

  pub more_kept : (more vs : List TyVar) (u : TyVar) → IsAmong u vs → IsAmong u (with_vars more vs)
  more_kept [] vs u m = m
  more_kept (v ∷ more) vs u m = more_kept more (with_var v vs) u (with_kept v u vs m)

  pub more_are : (more vs : List TyVar) → AllByRecursion (IsFormVar forms) more → AreVars forms vs → AreVars forms (with_vars more vs)
  more_are [] vs h a = a
  more_are (v ∷ more) vs h a = more_are more (with_var v vs) h.1 (with_are v vs a h.0)

  pub more_there : IsNamedOnce forms → (more vs : List TyVar) → AllByRecursion (IsFormVar forms) more → AreVars forms vs → (u : TyVar) → IsAmong u more → IsAmong u (with_vars more vs)
  more_there named [] vs h a u m = absurd m
  more_there named (v ∷ more) vs h a u (inl e) =
      more_kept more (with_var v vs) u (subst (λ (w : TyVar). IsAmong w (with_var v vs)) (sym e) (with_there named v vs a h.0))
  more_there named (v ∷ more) vs h a u (inr m) = more_there named more (with_var v vs) h.1 (with_are v vs a h.0) u m

pub vars_known : (forms : List TyForm) (vs : List TyVar) (t : Tree) → AreVariables vs t → AllVars (IsFormVar forms) t → AllByRecursion (IsFormVar forms) vs
vars_known forms vs t a k = from_among (IsFormVar forms) vs (λ v m. at_standing (IsFormVar forms) t v k (at_among (λ u. Stands u t) vs v a.stand m))
