-- One more type function.
use Rattle.std.proofs.Common.{◌≡◌, ℕ, ◌<◌, List, [], ◌∷◌, ◌++◌, length, Option, Some, None, refl, sym, ap, ◌∙◌, arith, subst, ◌⊎◌, inl, inr}
use Rattle.std.specs.Prelude.{slice_get}
use Rattle.std.specs.List.{AllByRecursion}
use Rattle.sml_tree.specs.declared.bare.Bare.{Bare}
use Rattle.sml_tree.specs.declared.bare.TypeBinding.{TypeBinding}
use Rattle.sml_types.specs.declared.types.Ty.{Ty}
use Rattle.sml_types.specs.declared.types.TyVar.{TyVar}
use Rattle.sml_types.specs.declared.types.TyForm.{TyForm}
use Rattle.sml_types.specs.declared.scheme.Scheme.{Scheme}
use Rattle.sml_types.specs.declared.tables.ConRow.{ConRow}
use Rattle.sml_types.specs.declared.tables.TypeName.{TypeName}
use Rattle.sml_types.specs.Tree.{Tree}
use Rattle.sml_types.specs.Forms.{tree}
use Rattle.sml_types.specs.Poly.{poly}
use Rattle.sml_types.specs.Library.{name_type, cons_of, arg_of}
use Rattle.sml_types.specs.TypeExps.{all_explicit}
use Rattle.sml_types.specs.Typing.{Typing, Covers, IsTypeBinding}
use Rattle.sml_unify.specs.Steps.{IsLonger}
use Rattle.infer_parts.specs.Copies.{AreOldVars}
use Rattle.infer_parts.specs.Written.{IsClosedScheme}
use Rattle.infer_tables.specs.declared.known.Known.{Known}
use Rattle.infer_tables.specs.Declare.{IsClosedArgument, IsClosedRow}
use Rattle.infer_tables.specs.Known.{IsMade, IsScope, HasSoFar, Extends, IsStep, IsAnswer}
use Rattle.infer_tables.specs.Meaning.{IsCovered, IsCoveredOrNone}
use Rattle.infer_tables.proofs.Lists.{at_all, all_mono, all_both, get_more, get_last, get_either}
use Rattle.infer_tables.proofs.MeaningFacts.{abbreviations_after}
use Rattle.infer_tables.proofs.StepFacts.{goes_before, goes_allows, has_allows}

-- ---- Later forms

argument_longer : (old new : List TyForm) (vars : List TyVar) (a : Option Ty) → IsLonger old new → IsClosedArgument old vars a → IsClosedArgument new vars a
argument_longer old new vars None l h = tt
argument_longer old new vars (Some a) l h = ((let x = h.0 in let y = l.count in omega arith), subst (Covers vars) (sym (l.trees a.0 h.0)) h.1)

pub row_longer : (old new : List TyForm) (row : TypeName) → IsLonger old new → IsClosedRow old row → IsClosedRow new row
row_longer old new row l h = record { apart = h.apart; arguments = all_mono (λ (c : ConRow). IsClosedArgument old row.params c.arg) (λ c. IsClosedArgument new row.params c.arg) row.cons (λ c w. argument_longer old new row.params c.arg l w) h.arguments }

arg_same : (old new : List TyForm) (vars : List TyVar) (a : Option Ty) → IsLonger old new → IsClosedArgument old vars a → arg_of new a ≡ arg_of old a
arg_same old new vars None l h = refl
arg_same old new vars (Some a) l h = ap Some (l.trees a.0 h.0)

pub cons_same : (old new : List TyForm) (vars : List TyVar) (cons : List ConRow) → IsLonger old new → AllByRecursion (λ c. IsClosedArgument old vars c.arg) cons → cons_of new cons ≡ cons_of old cons
cons_same old new vars [] l h = refl
cons_same old new vars (c ∷ cons) l h =
    let a = arg_same old new vars c.arg l h.0 in
    let r = cons_same old new vars cons l h.1 in
    ap (λ x. record { text = c.text; arg = x } ∷ cons_of new cons) a ∙ ap (λ cs. record { text = c.text; arg = arg_of old c.arg } ∷ cs) r

pub row_same : (old new : List TyForm) (row : TypeName) → IsLonger old new → IsClosedRow old row → name_type new row ≡ name_type old row
row_same old new row l h = ap (λ cs. record { text = row.text; params = row.params; eq = row.eq; cons = cs }) (cons_same old new row.params row.cons l h.arguments)

scheme_longer : (old new : List TyForm) (s : Scheme) → IsLonger old new → IsClosedScheme old s → IsClosedScheme new s
scheme_longer old new s l h = ((let x = h.0 in let y = l.count in omega arith), subst (Covers s.vars) (sym (l.trees s.body.0 h.0)) h.1)

pub scope_longer : (p : Bare) (old new : List TyForm) (k : Known) → IsLonger old new → IsScope p old k → IsScope p new k
scope_longer p old new k l h =
    record {
      types = h.types;
      stands = h.stands;
      there = all_mono (λ (t : Ty). t.0 < length old) (λ t. t.0 < length new) k.stands (λ t x. let y = l.count in omega arith) h.there;
      explicit_ones = λ u t e. l.trees t.0 (at_all (λ (s : Ty). s.0 < length old) k.stands u t h.there e) ∙ h.explicit_ones u t e;
      closed = all_mono (IsClosedScheme old) (IsClosedScheme new) k.abbreviations (λ s w. scheme_longer old new s l w) h.closed;
      made = λ i s e. subst (IsMade p.tyvars (length k.tables.names)) (sym (l.trees s.body.0 (at_all (IsClosedScheme old) k.abbreviations i s h.closed e).0)) (h.made i s e);
      rows = all_mono (IsClosedRow old) (IsClosedRow new) k.tables.names (λ r w. row_longer old new r l w) h.rows;
    }

pub has_longer : (p : Bare) (old new : List TyForm) (k : Known) (t : Typing) → IsLonger old new → IsScope p old k → HasSoFar old k t → HasSoFar new k t
has_longer p old new k t l scope h =
    record {
      rows = λ n row e. let o = h.rows n row e in (o.0, o.1, o.2 ∙ sym (row_same old new row l (at_all (IsClosedRow old) k.tables.names n row scope.rows e)));
      abbreviations = abbreviations_after old new k.abbreviations t.abbreviations l scope.closed h.abbreviations;
    }

-- ---- One more

poly_eq : (vs ws : List TyVar) (t u : Tree) → vs ≡ ws → t ≡ u → poly vs t ≡ poly ws u
poly_eq vs ws t u e q = ap (λ xs. poly xs t) e ∙ ap (poly ws) q

abbrev added : Known → Scheme → Known
added k s = record { tables = k.tables; abbreviations = k.abbreviations ++ s ∷ []; stands = k.stands }

module _ (p : Bare) (old new : List TyForm) (k : Known) (scope : IsScope p old k) (longer : IsLonger old new) (b : TypeBinding) where
  abbrev Asked : Typing → Type 0
  Asked t = IsTypeBinding p t b

  more : (s : Scheme) → Extends k (added k s)
  more s = record { names = λ n row q. q; schemes = λ i x q. get_more k.abbreviations (s ∷ []) i x q }

  pub binding_added : (s : Scheme) → AreOldVars old new → s.vars ≡ all_explicit p.tyvars b.params → b.number ≡ length k.abbreviations → IsCovered p new k s.vars b.ty s.body → IsStep p Asked 0 old k new (added k s)
  binding_added s vars is number c =
      let T : Tree = tree new s.body.0 in
      let later = scope_longer p old new k longer scope in
      record {
        longer = longer;
        vars = λ i v e. (i, vars i v e);
        extends = more s;
        count = omega arith;
        scope =
            record {
              types = later.types;
              stands = later.stands;
              there = later.there;
              explicit_ones = later.explicit_ones;
              closed = all_both (IsClosedScheme new) k.abbreviations (s ∷ []) later.closed ((c.meaning.there, c.covers), tt);
              made = λ i x e. made_either i x (get_either k.abbreviations s i x e);
              rows = later.rows;
            };
        sound = λ t g.
            let before = goes_before p new new k (added k s) t later (record { count = omega arith; keeps = λ i f q. q; trees = λ i l. refl }) (more s) g in
            let allows = goes_allows p new k t later before in
            let here : slice_get (k.abbreviations ++ s ∷ []) b.number ≡ Some s = ap (slice_get (k.abbreviations ++ s ∷ [])) number ∙ get_last k.abbreviations s in
            (T, c.meaning.means t allows, subst (λ vs. Covers vs T) is c.covers, g.abbreviations b.number s here ∙ poly_eq s.vars (all_explicit p.tyvars b.params) (tree t.forms s.body.0) T is (g.longer.trees s.body.0 c.meaning.there));
        complete = λ t h w.
            let now = has_longer p old new k t longer scope h in
            let same : w.0 ≡ T = c.meaning.only t (has_allows new k t now) w.0 w.1 in
            record {
              rows = now.rows;
              abbreviations = λ i x e. agree t now w.3 same i x (get_either k.abbreviations s i x e);
            };
      }
    where
      made_either : (i : ℕ) (x : Scheme) → (slice_get k.abbreviations i ≡ Some x) ⊎ ((i ≡ length k.abbreviations) × (x ≡ s)) → IsMade p.tyvars (length k.tables.names) (tree new x.body.0)
      made_either i x (inl q) = (scope_longer p old new k longer scope).made i x q
      made_either i x (inr q) = subst (λ (y : Scheme). IsMade p.tyvars (length k.tables.names) (tree new y.body.0)) (sym q.1) c.meaning.made

      agree : (t : Typing) → HasSoFar new k t → {u : Tree} → t.abbreviations b.number ≡ poly (all_explicit p.tyvars b.params) u → u ≡ tree new s.body.0 → (i : ℕ) (x : Scheme) → (slice_get k.abbreviations i ≡ Some x) ⊎ ((i ≡ length k.abbreviations) × (x ≡ s)) → t.abbreviations i ≡ poly x.vars (tree new x.body.0)
      agree t now {u} e same i x (inl q) = now.abbreviations i x q
      agree t now {u} e same i x (inr q) =
          let place : i ≡ b.number = q.0 ∙ sym number in
          ap t.abbreviations place ∙ e ∙ poly_eq (all_explicit p.tyvars b.params) s.vars u (tree new s.body.0) (sym is) same ∙ ap (λ (y : Scheme). poly y.vars (tree new y.body.0)) (sym q.1)

  pub binding_added_as : (s : Scheme) (schemes : List Scheme) → schemes ≡ k.abbreviations ++ s ∷ [] → AreOldVars old new → s.vars ≡ all_explicit p.tyvars b.params → b.number ≡ length k.abbreviations → IsCovered p new k s.vars b.ty s.body → IsStep p Asked 0 old k new (record { tables = k.tables; abbreviations = schemes; stands = k.stands })
  binding_added_as s schemes e vars is number c = subst (λ ss. IsStep p Asked 0 old k new (record { tables = k.tables; abbreviations = ss; stands = k.stands })) (sym e) (binding_added s vars is number c)

  pub binding_refused : (vars : List TyVar) → vars ≡ all_explicit p.tyvars b.params → IsCoveredOrNone p new k vars b.ty None → IsAnswer p Asked 0 old k new None
  binding_refused vars is n = λ t h w. n t (has_allows new k t (has_longer p old new k t longer scope h)) w.0 w.1 (subst (λ vs. Covers vs w.0) (sym is) w.2)
