-- An explicit type variable stands in a new form.
use Rattle.std.proofs.Common.{◌≡◌, ℕ, zero, suc, ◌+◌, ◌<◌, List, [], ◌∷◌, ◌++◌, length, Some, Option, None, refl, sym, ap, ◌∙◌, subst, arith, ◌⊎◌, inl, inr, length-append}
use Rattle.std.specs.Prelude.{slice_get, slice_set}
use Rattle.std.specs.List.{AllByRecursion}
use Rattle.sml_tree.specs.declared.bare.Bare.{Bare}
use Rattle.sml_types.specs.declared.types.Ty.{Ty}
use Rattle.sml_types.specs.declared.types.TyVar.{TyVar}
use Rattle.sml_types.specs.declared.types.TyForm.{TyForm}
use Rattle.sml_types.specs.declared.types.TyForm.TheVariants.{Var}
use Rattle.sml_types.specs.declared.tables.Tables.{Tables}
use Rattle.sml_types.specs.Tree.{Variable, AllVars}
use Rattle.sml_types.specs.Forms.{tree, IsNumbered, IsNamedOnce, IsNamedAs}
use Rattle.sml_types.specs.TypeExps.{explicit}
use Rattle.sml_types.specs.Typing.{Typing}
use Rattle.sml_unify.specs.Steps.{IsLonger}
use Rattle.sml_unify.proofs.Known.{IsKnown, tree_known}
use Rattle.infer_tables.specs.declared.known.Known.{Known}
use Rattle.infer_tables.specs.Known.{IsScope, HaveVars, IsStep, IsAnswer}
use Rattle.infer_tables.proofs.Lists.{get_either, at_all, longer_by_one, some_eq}
use Rattle.infer_tables.proofs.BindingFacts.{scope_longer, has_longer}
use Rattle.infer_tables.proofs.GroupFacts.{known_is}
use Rattle.infer_tables.proofs.StepFacts.{step_then, step_as}

known_at : {A : Type 0} (xs : List A) (i : ℕ) → i < length xs → (x : A) × (slice_get xs i ≡ Some x)
known_at [] i l = absurd (omega (arith, l))
known_at (x ∷ xs) zero l = (x, refl)
known_at (x ∷ xs) (suc i) l = known_at xs i (omega (arith, l))

set_get : {A : Type 0} (xs : List A) (at i : ℕ) (x y : A) → slice_get (slice_set xs at x) i ≡ Some y → ((i ≡ at) × (x ≡ y)) ⊎ (slice_get xs i ≡ Some y)
set_get [] at i x y q = inr q
set_get (z ∷ xs) zero zero x y q = inl (refl, some_eq x y q)
set_get (z ∷ xs) zero (suc i) x y q = inr q
set_get (z ∷ xs) (suc at) zero x y q = inr q
set_get (z ∷ xs) (suc at) (suc i) x y q = next (set_get xs at i x y q)
  where
    next : ((i ≡ at) × (x ≡ y)) ⊎ (slice_get xs i ≡ Some y) → ((suc i ≡ suc at) × (x ≡ y)) ⊎ (slice_get xs i ≡ Some y)
    next (inl e) = inl (ap suc e.0, e.1)
    next (inr e) = inr e

set_count : {A : Type 0} (xs : List A) (at : ℕ) (x : A) → length (slice_set xs at x) ≡ length xs
set_count [] at x = refl
set_count (y ∷ xs) zero x = refl
set_count (y ∷ xs) (suc at) x = ap suc (set_count xs at x)

set_all : {A : Type 0} (P : A → Type 0) (xs : List A) (at : ℕ) (x : A) → AllByRecursion P xs → P x → AllByRecursion P (slice_set xs at x)
set_all P [] at x h p = tt
set_all P (y ∷ xs) zero x h p = (p, h.1)
set_all P (y ∷ xs) (suc at) x h p = (h.0, set_all P xs at x h.1 p)

module _ (p : Bare) (old : List TyForm) (k : Known) (scope : IsScope p old k) (numbered : IsNumbered old) (u : ℕ) (below : u < length k.stands) where
  abbrev v : TyVar
  v = explicit p.tyvars u

  -- the variable stands there
  stands_now : IsKnown old v
  stands_now =
      let o = known_at k.stands u below in
      subst (AllVars (IsKnown old)) (scope.explicit_ones u o.0 o.1) (tree_known old o.0.0 numbered (at_all (λ (t : Ty). t.0 < length old) k.stands u o.0 scope.there o.1))

  pub named_again : IsNamedOnce old → IsNamedAs old (Var v)
  named_again once i x w e q n =
      let s = stands_now in
      let same : v ≡ w = cc in
      once i s.0 x w e (s.1 ∙ ap (λ (y : TyVar). Some (Var y)) same) n

  module _ (new : List TyForm) (after : Known) (t : Ty) (is : new ≡ old ++ Var v ∷ []) (at : t.0 ≡ length old) (means : tree new t.0 ≡ Variable v) (tables : after.tables ≡ k.tables) (schemes : after.abbreviations ≡ k.abbreviations) (stands : after.stands ≡ slice_set k.stands u t) where
    longer : IsLonger old new
    longer = subst (IsLonger old) (sym is) (longer_by_one old (Var v))

    kept : IsScope p new k
    kept = scope_longer p old new k longer scope

    new_stand : t.0 < length new
    new_stand = let c = ap length is in omega (arith, c, at, length-append old (Var v ∷ []))

    abbrev with : Known
    with = record { tables = k.tables; abbreviations = k.abbreviations; stands = slice_set k.stands u t }

    after_is : with ≡ after
    after_is = known_is with after (ap (λ (x : Tables). x.names) (sym tables)) (sym schemes) (sym stands)

    stand_is : (i : ℕ) (x : Ty) → ((i ≡ u) × (t ≡ x)) ⊎ (slice_get k.stands i ≡ Some x) → tree new x.0 ≡ Variable (explicit p.tyvars i)
    stand_is i x (inl q) = ap (λ (y : Ty). tree new y.0) (sym q.1) ∙ means ∙ ap (λ (j : ℕ). Variable (explicit p.tyvars j)) (sym q.0)
    stand_is i x (inr q) = kept.explicit_ones i x q

    scope_with : IsScope p new with
    scope_with =
        record {
          types = kept.types;
          stands = set_count k.stands u t ∙ kept.stands;
          there = set_all (λ (x : Ty). x.0 < length new) k.stands u t kept.there new_stand;
          explicit_ones = λ i x e. stand_is i x (set_get k.stands u i t x e);
          closed = kept.closed;
          made = kept.made;
          rows = kept.rows;
        }

    one_var : (i : ℕ) (w : TyVar) → (slice_get old i ≡ Some (Var w)) ⊎ ((i ≡ length old) × (Var w ≡ Var v)) → (j : ℕ) × (slice_get old j ≡ Some (Var w))
    one_var i w (inl q) = (i, q)
    one_var i w (inr q) = let s = stands_now in (s.0, s.1 ∙ ap Some (sym q.1))

    vars : HaveVars old new
    vars i w e = one_var i w (get_either old (Var v) i (Var w) (ap (λ (fs : List TyForm). slice_get fs i) (sym is) ∙ e))

    pub renewed : IsStep p (λ t. Unit {0}) 0 old k new after
    renewed =
        subst (IsStep p (λ t. Unit {0}) 0 old k new) after_is
        (record {
          longer = longer;
          vars = vars;
          extends = record { names = λ n row q. q; schemes = λ i s q. q };
          count = omega arith;
          scope = scope_with;
          sound = λ x g. tt;
          complete = λ x h a. let m = has_longer p old new k x longer scope h in record { rows = m.rows; abbreviations = m.abbreviations };
        })

-- what is answered over new forms
pub renewed_answer : (p : Bare) (asks : Typing → Type 0) (n : ℕ) (fa fb fc : List TyForm) (a b : Known) (o : Option Known) → IsStep p (λ t. Unit {0}) 0 fa a fb b → IsAnswer p asks n fb b fc o → IsAnswer p asks n fa a fc o
renewed_answer p asks n fa fb fc a b (Some c) s r = step_as p asks asks (0 + n) n fa fc a c (omega arith) (λ t x. x) (λ t x. x) (step_then p (λ t. Unit {0}) asks asks 0 n fa fb fc a b c (λ t x y. y) (λ t y. (tt, y)) s r)
renewed_answer p asks n fa fb fc a b None s r = λ t h w. r t (s.complete t h tt) w

-- over two lists of new forms
pub renewed_then : (p : Bare) (fa fb fc : List TyForm) (a b c : Known) → IsStep p (λ t. Unit {0}) 0 fa a fb b → IsStep p (λ t. Unit {0}) 0 fb b fc c → IsStep p (λ t. Unit {0}) 0 fa a fc c
renewed_then p fa fb fc a b c s r = renewed_answer p (λ t. Unit {0}) 0 fa fb fc a b (Some c) s r
