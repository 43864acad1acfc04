-- What the laws ask of settled schemes, from what is known of settled names and forms.
use Rattle.std.proofs.Common.{◌≡◌, ℕ, zero, suc, ◌<◌, true, List, [], ◌∷◌, length, Option, Some, None, refl, sym, subst, nat_eq, inl, inr, arith}
use Rattle.std.specs.Prelude.{slice_get}
use Rattle.std.specs.List.{AllByRecursion}
use Rattle.std.proofs.lemmas.Bool.{eqb-true}
use Rattle.sml_types.specs.declared.types.TyVar.{TyVar}
use Rattle.sml_types.specs.declared.types.TyForm.{TyForm}
use Rattle.sml_types.specs.declared.tables.TypeName.{TypeName}
use Rattle.sml_types.specs.Tree.{admits, AllVars}
use Rattle.sml_types.specs.Forms.{AreForms}
use Rattle.sml_types.specs.Poly.{Poly, has_num}
use Rattle.sml_types.specs.Schemes.{scheme_poly}
use Rattle.sml_types.specs.Typing.{IsAmong}
use Rattle.sml_types.proofs.TreeFacts.{either}
use Rattle.sml_unify.specs.Solved.{Substitution, Respects}
use Rattle.sml_unify.proofs.Known.{tree_known}
use Rattle.infer_state.specs.declared.settled.Settled.{Settled}
use Rattle.infer_state.specs.Fits.{IsFormVar, AreThere, settled_at, settled_poly, joined_settled}
use Rattle.infer_laws.specs.Schemes.{KeepsMarks, AreNamedOnce, EachSettled}
use Rattle.infer_laws.proofs.Copies.{vars_map}

-- the settled name behind a scheme
record IsSchemeOf (forms : List TyForm) (o : Option Settled) (s : Poly) : Type 0 where
  pub name : Settled
  pub is : o ≡ Some name
  pub scheme : s ≡ scheme_poly forms name.scheme

scheme_of : (forms : List TyForm) (o : Option Settled) (s : Poly) → settled_poly forms o ≡ Some s → IsSchemeOf forms o s
scheme_of forms None s e = cc
scheme_of forms (Some q) s e = record { name = q; is = refl; scheme = cc }

-- a variable of the forms with the number of one of these is one of these
one_of : (forms : List TyForm) (v : TyVar) (vs : List TyVar) → AreForms forms → AllByRecursion (IsFormVar forms) vs → IsFormVar forms v → has_num vs v.num ≡ true → IsAmong v vs
one_of forms v [] a h k e = cc
one_of forms v (w ∷ vs) a h k e =
    either
    (nat_eq v.num w.num)
    (has_num vs v.num)
    (IsAmong v (w ∷ vs))
    e
    (λ q. inl (a.named k.0 h.0.0 v w k.1 h.0.1 (eqb-true v.num w.num q)))
    (λ q. inr (one_of forms v vs a h.1 k q))

module _ (forms : List TyForm) (settled : List (Option Settled)) (are_forms : AreForms forms) (there : AreThere forms settled) where
  abbrev schemes : ℕ → Option Poly
  schemes x = settled_at forms settled x

  known_in : (x : ℕ) (s : Poly) → IsSchemeOf forms (joined_settled (slice_get settled x)) s → AllVars (IsFormVar forms) s.body
  known_in x s q =
      subst (λ (r : Poly). AllVars (IsFormVar forms) r.body) (sym q.scheme) (tree_known forms q.name.scheme.body.0 are_forms.numbered (there x q.name q.is).there)

  -- all variables are those of the forms
  pub settled_known : EachSettled (λ s. AllVars (IsFormVar forms) s.body) schemes
  settled_known x s e = known_in x s (scheme_of forms (joined_settled (slice_get settled x)) s e)

  -- a substitution that keeps the marks keeps theirs
  pub settled_marks : (names : List TypeName) (f : Substitution) → Respects names forms f → EachSettled (λ s. KeepsMarks names f s.body) schemes
  settled_marks names f r x s e =
      vars_map (IsFormVar forms) (λ v. v.eq ≡ true → admits names (f v) ≡ true) s.body (λ v k m. r k.0 v k.1 m) (settled_known x s e)

  -- one number has one variable
  pub settled_once : EachSettled AreNamedOnce schemes
  settled_once x s e =
      let q = scheme_of forms (joined_settled (slice_get settled x)) s e in
      let vars = subst (λ (r : Poly). AllByRecursion (IsFormVar forms) r.vars) (sym q.scheme) (there x q.name q.is).vars in
      vars_map (IsFormVar forms) (λ v. has_num s.vars v.num ≡ true → IsAmong v s.vars) s.body (λ v k m. one_of forms v s.vars are_forms vars k m) (settled_known x s e)

-- a settled name is one of the names
pub settled_named : (forms : List TyForm) (settled : List (Option Settled)) (x : ℕ) (s : Poly) → settled_at forms settled x ≡ Some s → x < length settled
settled_named forms [] x s e = cc
settled_named forms (o ∷ settled) zero s e = omega arith
settled_named forms (o ∷ settled) (suc x) s e = let l = settled_named forms settled x s e in omega arith
