-- What inference ends with is a principal typing.
use Rattle.std.proofs.Common.{◌≡◌, ◌<◌, ◌⊎◌, inl, inr, ℕ, zero, suc, Option, Some, None, List, [], ◌∷◌, length, refl, sym, ap, subst, ◌∙◌}
use Rattle.std.specs.Prelude.{slice_get, take}
use Rattle.std.specs.List.{AllByRecursion}
use Rattle.sml_tree.specs.declared.bare.Bare.{Bare}
use Rattle.sml_tree.specs.declared.bare.Node.{Node}
use Rattle.sml_tree.specs.declared.bare.Node.TheVariants as node
use Rattle.sml_types.specs.declared.types.Ty.{Ty}
use Rattle.sml_types.specs.declared.types.TyVar.{TyVar}
use Rattle.sml_types.specs.declared.types.TyForm.{TyForm}
use Rattle.sml_types.specs.declared.tables.ConRow.{ConRow}
use Rattle.sml_types.specs.declared.tables.TypeName.{TypeName}
use Rattle.sml_types.specs.Poly.{Poly, Context}
use Rattle.sml_types.specs.Library.{NameType, name_types, BeginsWithLibrary}
use Rattle.sml_types.specs.Typing.{Typing, IsTypedNode, IsTypingBelow}
use Rattle.sml_unify.specs.declared.resolve.Rename.{Rename}
use Rattle.sml_unify.specs.Solved.{Substitution, IsSolved}
use Rattle.infer_parts.specs.Rounds.{AreArgumentsThere}
use Rattle.infer_parts.specs.Written.{AreAbbreviations}
use Rattle.infer_state.specs.declared.declared.Declared.{Declared}
use Rattle.infer_state.specs.Names.{names_of, names_bound, behind}
use Rattle.infer_state.specs.Typings.{IsFinished}
use Rattle.infer_tables.specs.Declare.{IsTypeDeclaration, IsClosedRow, IsClosedArgument}
use Rattle.infer_laws.specs.Cited.{AreCitedUpTo, AreClosedUpTo}
use Rattle.infer_laws.specs.Gives.{IsSettled, IsInferredNode, IsInferred}
use Rattle.infer_laws.specs.Principal.{IsMostGeneral, IsFollowed, IsPrincipal}
use Rattle.infer_laws.proofs.Bound.{bound_of}
use Rattle.infer_laws.proofs.Final.{final_is_renamed}
use Rattle.infer_laws.proofs.Gives.{rules_give}
use Rattle.infer_laws.proofs.Left.{node_left, closed_up_to}
use Rattle.infer_laws.proofs.Longer.{rows_same, abbreviations_are}
use Rattle.infer_laws.proofs.Principal.{principal}
use Rattle.infer_laws.proofs.Settled.{settled_known, settled_marks, settled_once, settled_named}
use Rattle.infer_scopes.specs.Scopes.{contexts_of}
use Rattle.infer_checks.specs.Checked.{IsNoTypeDeclaration, ending, ended, generals}
use Rattle.sml_infer.specs.Stages.{known}
use Rattle.sml_infer.specs.Going.{Now, stage}
use Rattle.sml_infer.specs.Below.{IsEnded}

-- ---- Tables

argument_there : (forms : List TyForm) (vars : List TyVar) (o : Option Ty) (a : Ty) → IsClosedArgument forms vars o → o ≡ Some a → a.0 < length forms
argument_there forms vars None a h e = absurd cc
argument_there forms vars (Some b) a h e = let same : b ≡ a = cc in subst (λ (r : Ty). r.0 < length forms) same h.0

con_there : (forms : List TyForm) (vars : List TyVar) (cons : List ConRow) (k : ℕ) (c : ConRow) (a : Ty) → AllByRecursion (λ q. IsClosedArgument forms vars q.arg) cons → slice_get cons k ≡ Some c → c.arg ≡ Some a → a.0 < length forms
con_there forms vars [] k c a h e q = absurd cc
con_there forms vars (d ∷ cons) zero c a h e q = let same : d ≡ c = cc in argument_there forms vars d.arg a h.0 (ap (λ (r : ConRow). r.arg) same ∙ q)
con_there forms vars (d ∷ cons) (suc k) c a h e q = con_there forms vars cons k c a h.1 e q

-- the arguments of constructors stand there
pub rows_there : (forms : List TyForm) (names : List TypeName) → AllByRecursion (IsClosedRow forms) names → AreArgumentsThere forms names
rows_there forms [] h n k row c a e q r = absurd cc
rows_there forms (name ∷ names) h zero k row c a e q r =
    let same : name ≡ row = cc in
    con_there forms name.params name.cons k c a h.0.arguments (ap (λ (m : TypeName). slice_get m.cons k) same ∙ q) r
rows_there forms (name ∷ names) h (suc n) k row c a e q r = rows_there forms names h.1 n k row c a e q r

either_kind : (n : Node) → IsNoTypeDeclaration n ⊎ IsTypeDeclaration n
either_kind (node.Type bindings) = inr tt
either_kind (node.Datatype bindings) = inr tt
either_kind _ = inl tt

type_binds_none : (part : ℕ → List ℕ) (i : ℕ) (n : Node) → IsTypeDeclaration n → names_of part i n ≡ []
type_binds_none part i (node.Type bindings) h = refl
type_binds_none part i (node.Datatype bindings) h = refl
type_binds_none part i _ h = absurd h

type_finished : (p : Bare) (t : Typing) (c : Context) (i : ℕ) (n : Node) → IsTypeDeclaration n → IsTypedNode p t c (t.types i) (t.binds i) n → IsFinished p t c i n
type_finished p t c i (node.Type bindings) k h = h
type_finished p t c i (node.Datatype bindings) k h = h
type_finished p t c i _ k h = absurd k

module _ (p : Bare) (count : ℕ) (d : Declared) (w : Now) (general : List (Option (List TyVar))) (renames : List Rename) (end : IsEnded p count d w general renames) where
  abbrev forms : List TyForm
  forms = w.unknowns.types

  abbrev names : List TypeName
  names = d.tables.names

  abbrev contexts : ℕ → Option Context
  contexts = contexts_of w.scopes

  abbrev settled : ℕ → Option Poly
  settled = known (stage w)

  abbrev f : Substitution
  f = ending w.unknowns renames

  abbrev t : Typing
  t = ended p d contexts w.settled general w.unknowns renames

  abbreviations : AreAbbreviations forms d.abbreviations t.abbreviations
  abbreviations = abbreviations_are forms d.abbreviations

  rows_kept : name_types forms names ≡ name_types end.starting.types names
  rows_kept = rows_same end.starting.types forms end.longer names (rows_there end.starting.types names end.tables.rows)

  schemes : IsSettled p settled f
  schemes =
      record {
        bodies = λ x s e. end.going.sound.bodies x s e f end.checked.solution.solves;
        proper = λ x s e. end.checked.proper x s e;
        once = settled_once forms w.settled end.going.sound.forms end.going.sound.there;
      }

  -- ---- Nodes

  closed : (js : List ℕ) → AllByRecursion (λ j. AreCitedUpTo p.types (length d.abbreviations) j) js → AllByRecursion (AreClosedUpTo p t.abbreviations) js
  closed [] h = tt
  closed (j ∷ js) h = (closed_up_to p forms d.abbreviations t.abbreviations j end.good.stand h.0 end.going.sound.declared.closed abbreviations, closed js h.1)

  body_behind : (i k e : ℕ) (c : Context) → i < count → slice_get p.nodes i ≡ Some (node.Let k e) → contexts i ≡ Some c → contexts e ≡ Some (behind p.nodes c k)
  body_behind i k e c l at here =
      let noted = end.going.lets.noted i k e l at in
      end.going.contexts e i k c (end.all_reached e i noted) noted at here

  finished : (i : ℕ) (n : Node) (c : Context) → i < count → slice_get p.nodes i ≡ Some n → contexts i ≡ Some c → IsFinished p t c i n
  finished i n c l at here = by (either_kind n)
    where
      by : IsNoTypeDeclaration n ⊎ IsTypeDeclaration n → IsFinished p t c i n
      by (inl h) = end.checked.finished i n c l at h here
      by (inr h) =
          let none : t.binds i ≡ [] = bound_of p.nodes i n end.numbered at ∙ type_binds_none (names_bound p.nodes) i n h in
          let typed = end.tables.sound t end.longer refl abbreviations i n l at h c (t.types i) in
          type_finished p t c i n h (subst (λ (bs : List ℕ). IsTypedNode p t c (t.types i) bs n) (sym none) typed)

  inferred_node : (i : ℕ) (n : Node) → i < count → slice_get p.nodes i ≡ Some n → IsInferredNode p forms names d.abbreviations contexts settled (generals general) f i n
  inferred_node i n l at =
      let done = end.going.nodes i n l at in
      record {
        there = at;
        context = done.context;
        stands = done.here;
        parts = record { inside = done.parts; body = λ k e same. body_behind i k e done.context l (at ∙ ap Some same) done.here };
        before = done.asked;
        keeps = done.settled;
        own = done.own;
        ready = done.ready;
        rule = done.rule t.abbreviations abbreviations f end.checked.solution;
        written = node_left p names t.abbreviations f n end.checked.explicit_ones end.good.rows (closed _ (end.cited i n l at));
        finished = finished i n done.context l at done.here;
      }

  -- ---- The typing

  abbrev begins : BeginsWithLibrary forms names
  begins = record { param = end.tables.library.param; plain = end.tables.library.plain; rows = ap (λ (rows : List NameType). take 10 rows) rows_kept ∙ end.tables.library.rows }

  inferred : IsInferred p forms names d.abbreviations contexts settled (generals general) f count
  inferred =
      record {
        numbered = end.numbered;
        schemes = schemes;
        root = end.root;
        library = begins;
        parameter = end.tables.parameter;
        declared = end.tables.made;
        nodes = inferred_node;
      }

  -- it is a typing
  pub ended_types : IsTypingBelow p t count
  ended_types = rules_give p forms names d.abbreviations contexts settled (generals general) f count inferred

  solved : IsSolved forms w.unknowns.subst.bound
  solved =
      record {
        numbered = end.going.sound.forms.numbered;
        named = end.going.sound.forms.named;
        within = end.going.sound.state.bindings.within;
        acyclic = end.going.sound.state.bindings.acyclic;
      }

  name_there : (x : ℕ) (s : Poly) → settled x ≡ Some s → x < length p.names
  name_there x s e = subst (λ (k : ℕ). x < k) end.named (settled_named forms w.settled x s e)

  most : IsMostGeneral p forms w.unknowns.subst.bound d.starts settled f
  most =
      record {
        solved = solved;
        laid = end.going.sound.laid;
        renamed = final_is_renamed p forms w.unknowns.subst.bound d.starts renames solved end.going.sound.laid end.checked.for_explicit;
        known = settled_known forms w.settled end.going.sound.forms end.going.sound.there;
        named = name_there;
      }

  followed : (other : Typing) → IsTypingBelow p other count → IsFollowed p forms w.unknowns.subst.bound names settled other
  followed other h =
      let q = end.going.follow other h in
      (q.f, record { rows = q.tables.rows; fits = q.fits; suit = q.suits; marks = settled_marks forms w.settled end.going.sound.forms end.going.sound.there names q.f q.solution.marks }, q.solution.marks, q.solution.solves)

  -- each other typing is an instance of it
  pub ended_principal : IsPrincipal p t count
  ended_principal = principal p forms w.unknowns.subst.bound d.starts names d.abbreviations contexts settled (generals general) f count end.within end.checked.settled_names inferred most followed
