-- In the types of one list of forms a number stands for one variable.
use Rattle.std.proofs.Common.{◌≡◌, ◌⊎◌, inl, inr, ℕ, zero, suc, ◌<◌, ◌≤◌, Bool, true, false, List, [], ◌∷◌, length, get_or, Option, Some, None, refl, sym, ap, ◌∙◌, subst}
use Rattle.std.specs.Prelude.{slice_get, nat_eq, if◌then◌else◌}
use Rattle.std.proofs.lemmas.Bool.{eqb-true, eq-eqb}
use Rattle.std.proofs.lemmas.Option.{slice_get_cases}
use Rattle.sml_types.specs.declared.types.TyVar.{TyVar}
use Rattle.sml_types.specs.declared.types.TyForm.{TyForm}
use Rattle.sml_types.specs.declared.types.TyForm.TheVariants.{Var, Fields, Arrow, Named}
use Rattle.sml_types.specs.Tree.{Tree, AllVars}
use Rattle.sml_types.specs.Forms.{AreForms, IsNamedOnce, var_of, tree}
use Rattle.sml_unify.proofs.Known.{IsKnown, tree_known, vars_mono}
use Rattle.type_text.proofs.Shows.{none_there}

-- whether the variable of a number admits equality, or what is said otherwise where there is none
abbrev mark_of : Option TyVar → ℕ → Bool → Bool
mark_of None x other = other
mark_of (Some v) x other = if nat_eq x v.num then v.eq else other

abbrev pub mark : List TyForm → ℕ → Bool
mark [] x = false
mark (f ∷ forms) x = mark_of (var_of f) x (mark forms x)

-- a variable has the mark of its number
first_mark : (f : TyForm) (v : TyVar) (other : Bool) → f ≡ Var v → v.eq ≡ mark_of (var_of f) v.num other
first_mark f v other e =
    ap (λ (b : Bool). if b then v.eq else other) (sym (eq-eqb v.num v.num refl)) ∙ ap (λ (g : TyForm). mark_of (var_of g) v.num other) (sym e)

later_mark : (f : TyForm) (v : TyVar) (other : Bool) → ((w : TyVar) → f ≡ Var w → w.num ≡ v.num → w ≡ v) → v.eq ≡ other → v.eq ≡ mark_of (var_of f) v.num other
later_mark (Var w) v other same e = go (nat_eq v.num w.num) refl
  where
    go : (b : Bool) → nat_eq v.num w.num ≡ b → v.eq ≡ (if b then w.eq else other)
    go true q = ap (λ (u : TyVar). u.eq) (sym (same w refl (sym (eqb-true v.num w.num q))))
    go false q = e
later_mark (Fields fields) v other same e = e
later_mark (Arrow a b) v other same e = e
later_mark (Named n args) v other same e = e

marked : (forms : List TyForm) → IsNamedOnce forms → (i : ℕ) (v : TyVar) → slice_get forms i ≡ Some (Var v) → v.eq ≡ mark forms v.num
marked [] once i v e = cc
marked (f ∷ forms) once zero v e = let same : f ≡ Var v = cc in first_mark f v (mark forms v.num) same
marked (f ∷ forms) once (suc i) v e =
    later_mark f v (mark forms v.num) (λ w h n. once 0 (suc i) w v (ap Some h) e n) (marked forms (λ i j. once (suc i) (suc j)) i v e)

-- so has each in the type of a form
pub tree_marked : (forms : List TyForm) (i : ℕ) → AreForms forms → AllVars (λ v. v.eq ≡ mark forms v.num) (tree forms i)
tree_marked forms i fs = go (slice_get_cases forms i).1
  where
    go : ((f : TyForm) × (i < length forms) × (slice_get forms i ≡ Some f) × (get_or forms i f ≡ f)) ⊎ ((length forms ≤ i) × (slice_get forms i ≡ None)) → AllVars (λ v. v.eq ≡ mark forms v.num) (tree forms i)
    go (inl h) = vars_mono (IsKnown forms) (λ v. v.eq ≡ mark forms v.num) (tree forms i) (λ v k. marked forms fs.named k.0 v k.1) (tree_known forms i fs.numbered h.1)
    go (inr h) = subst (λ (t : Tree). AllVars (λ v. v.eq ≡ mark forms v.num) t) (sym (none_there forms i h.1)) tt
