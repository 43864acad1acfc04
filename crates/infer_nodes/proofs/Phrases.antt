-- Phrases with written types.
use Rattle.std.proofs.Common.{◌≡◌, ℕ, suc, ◌<◌, List, [], ◌∷◌, length, Option, Some, None, refl, sym, ap, ◌∙◌, subst, arith, Result, Ok, Err}
use Rattle.std.specs.Prelude.{slice_get}
use Rattle.std.specs.List.{AllByRecursion}
use Rattle.std.proofs.lemmas.Option.{slice_get_within}
use Rattle.sml_tree.specs.declared.bare.Bare.{Bare}
use Rattle.sml_types.specs.declared.types.Ty.{Ty}
use Rattle.sml_types.specs.declared.types.TyForm.{TyForm}
use Rattle.sml_types.specs.declared.scheme.Scheme.{Scheme}
use Rattle.sml_types.specs.declared.tables.TypeName.{TypeName}
use Rattle.sml_types.specs.Tree.{Tree, Variable, inst}
use Rattle.sml_types.specs.Forms.{tree, AreForms}
use Rattle.sml_types.specs.Poly.{Poly}
use Rattle.sml_types.specs.Library.{NameType, arrow, exn_ty}
use Rattle.sml_types.specs.TypeExps.{explicit}
use Rattle.sml_unify.specs.declared.pair.Pair.{Pair}
use Rattle.sml_unify.specs.Solved.{Substitution}
use Rattle.sml_unify.specs.Steps.{IsLonger, AreBelow}
use Rattle.infer_parts.specs.Copies.{AreOldVars}
use Rattle.infer_parts.specs.Written.{stood, standing, AreThere, AreAbbreviations, IsClosedScheme, AreCited, IsWritten, IsTypeOf}
use Rattle.infer_state.specs.declared.declared.Starts.{Starts}
use Rattle.infer_state.specs.declared.failure.Failure.{Failure}
use Rattle.infer_state.specs.declared.failure.Failure.TheVariants.{Untypable, NoMemory}
use Rattle.infer_state.specs.Typings.{abbreviation_at}
use Rattle.infer_state.specs.Variables.{AreLaidOut, node_var, name_var}
use Rattle.infer_state.specs.Rules.{IsExnArgumentAt}
use Rattle.infer_nodes.specs.Good.{AreTypesGood}
use Rattle.infer_nodes.specs.Posed.{pair, StandsFor, IsPosed, IsPosing}
use Rattle.infer_nodes.specs.Made.{IsFixed, IsMeantAs, IsWrittenAs}
use Rattle.infer_nodes.specs.Records.{AreInRow}
use Rattle.infer_nodes.specs.Annotated.{TypedAsks, IsExnMeant, IsArgumentMade}
use Rattle.infer_nodes.proofs.Added.{longer_both}
use Rattle.infer_nodes.proofs.Making.{stands_at}
use Rattle.infer_nodes.proofs.Posing.{made_fixed, posed_as}
use Rattle.infer_nodes.proofs.Ruled.{says_same, posed_var, posed_with}
use Rattle.infer_nodes.proofs.Meant.{meant_left}

-- ---- The explicit type variables

pub all_items : {A : Type 0} (P : A → Type 0) (xs : List A) → ((i : ℕ) (x : A) → slice_get xs i ≡ Some x → P x) → AllByRecursion P xs
all_items P [] h = tt
all_items P (x ∷ xs) h = (h 0 x refl, all_items P xs (λ i y e. h (suc i) y e))

module _ (p : Bare) (forms : List TyForm) (starts : Starts) (fs : AreForms forms) (laid : AreLaidOut p forms starts) (stands : List Ty) (count : length stands ≡ length p.tyvars) (row : AreInRow starts.explicit stands) where
  stands_for : (u : ℕ) (t : Ty) → slice_get stands u ≡ Some t → StandsFor forms t (explicit p.tyvars u)
  stands_for u t q =
      let w = slice_get_within stands u t q in
      stands_at forms t (explicit p.tyvars u) fs (ap (slice_get forms) (row u t q) ∙ laid.explicit_ones u (omega arith))

  pub stands_there : AreThere forms stands
  stands_there = all_items (λ (t : Ty). t.0 < length forms) stands (λ i t q. (stands_for i t q).there)

  pub explicit_stood : (u : ℕ) → standing forms stands (explicit p.tyvars u) ≡ Variable (explicit p.tyvars u)
  explicit_stood u = by (slice_get stands u) refl
    where
      by : (o : Option Ty) → slice_get stands u ≡ o → stood forms (explicit p.tyvars u) o ≡ Variable (explicit p.tyvars u)
      by None q = refl
      by (Some t) q = (stands_for u t q).is

-- ---- Written types

abbrev pub WrittenSo : Bare → List TyForm → List TyForm → ℕ → List Ty → List TypeName → List Scheme → Option Ty → Type 0
WrittenSo p forms forms2 j stands names schemes o =
    (m : ℕ → Poly) → AreAbbreviations forms schemes m → IsWritten p.types p.tyvars names m (standing forms stands) forms2 j o

pub renamed : (p : Bare) (forms forms2 : List TyForm) (j : ℕ) (stands : List Ty) (names names2 : List TypeName) (schemes schemes2 : List Scheme) (o : Option Ty) → names ≡ names2 → schemes ≡ schemes2 → WrittenSo p forms forms2 j stands names schemes o → WrittenSo p forms forms2 j stands names2 schemes2 o
renamed p forms forms2 j stands names names2 schemes schemes2 o e q h =
    subst (λ (ss : List Scheme). WrittenSo p forms forms2 j stands names2 ss o) q (subst (λ (ns : List TypeName). WrittenSo p forms forms2 j stands ns schemes o) e h)

pub written_some : (p : Bare) (forms forms2 : List TyForm) (j : ℕ) (stands : List Ty) (names : List TypeName) (schemes : List Scheme) (t : Ty) → AreTypesGood p → ((u : ℕ) → standing forms stands (explicit p.tyvars u) ≡ Variable (explicit p.tyvars u)) → AllByRecursion (IsClosedScheme forms) schemes → AreCited p.types (length schemes) j → IsLonger forms forms2 → AreOldVars forms forms2 → WrittenSo p forms forms2 j stands names schemes (Some t) → (abbreviations : ℕ → Poly) → AreAbbreviations forms schemes abbreviations → IsWrittenAs p names abbreviations j forms forms2 (Ok t)
written_some p forms forms2 j stands names schemes t good ones bodies cited l v h abbreviations agree =
    let w : IsTypeOf p.types p.tyvars names abbreviations (standing forms stands) forms2 j t = h abbreviations agree in (
      w.type,
      record { means = w.means; only = w.only },
      record {
        there = w.there;
        is = w.is ∙ meant_left p good names abbreviations (standing forms stands) ones forms schemes bodies agree j cited w.type w.means;
        longer = l;
        vars = v;
      },
    )

-- a type that is answered stands there
pub written_there : (p : Bare) (names : List TypeName) (schemes : List Scheme) (j : ℕ) (forms forms2 : List TyForm) (t : Ty) → ((m : ℕ → Poly) → AreAbbreviations forms schemes m → IsWrittenAs p names m j forms forms2 (Ok t)) → t.0 < length forms2
written_there p names schemes j forms forms2 t h =
    let w = h (λ k. abbreviation_at forms (slice_get schemes k)) (λ k s e. ap (abbreviation_at forms) e) in
    let a : IsFixed w.0 forms forms2 t = w.2 in a.there

pub cited_as : (p : Bare) (j : ℕ) (schemes schemes2 : List Scheme) → schemes ≡ schemes2 → AreCited p.types (length schemes) j → AreCited p.types (length schemes2) j
cited_as p j schemes schemes2 e h = subst (λ (ss : List Scheme). AreCited p.types (length ss) j) e h

-- ---- Phrases of a written type

pub typed_posed : (p : Bare) (names : List TypeName) (abbreviations : ℕ → Poly) (i part exp : ℕ) (next : ℕ) (forms forms2 : List TyForm) (left at made : Ty) (ps : List Pair) → AreForms forms → AreBelow forms next → StandsFor forms left (node_var p part) → StandsFor forms at (node_var p i) → ps ≡ pair left at ∷ pair at made ∷ [] → IsWrittenAs p names abbreviations exp forms forms2 (Ok made) → IsPosed names (TypedAsks p names abbreviations i part exp) next forms next forms2 ps
typed_posed p names abbreviations i part exp next forms forms2 left at made ps fs b sl s e w =
    let u : Tree = w.0 in
    let m : IsMeantAs p names abbreviations exp u = w.1 in
    posed_as names (λ f. (f (node_var p part) ≡ f (node_var p i)) × (f (node_var p i) ≡ inst f u)) (TypedAsks p names abbreviations i part exp) next forms next forms2 ps
    (λ f h. (h.0, u, m.means, h.1))
    (λ f h. (h.0, h.3 ∙ ap (inst f) (m.only h.1 h.2)))
    (posed_with names (λ f x. x ≡ inst f u) (λ f. f (node_var p part) ≡ f (node_var p i)) next forms next forms2 (pair left at ∷ []) at made (node_var p i) ps fs b s e (says_same forms left at (node_var p part) (node_var p i) sl s) (made_fixed names u next forms forms2 made b w.2))

pub typed_failed : (p : Bare) (names : List TypeName) (abbreviations : ℕ → Poly) (i part exp : ℕ) (next : ℕ) (forms forms2 : List TyForm) (e : Failure) → IsWrittenAs p names abbreviations exp forms forms2 (Err e) → IsPosing names (TypedAsks p names abbreviations i part exp) next forms next forms2 (Err e)
typed_failed p names abbreviations i part exp next forms forms2 Untypable h = λ f r a. h a.1 a.2
typed_failed p names abbreviations i part exp next forms forms2 NoMemory h = tt

-- ---- Exceptions

pub exn_made : (p : Bare) (names : List TypeName) (abbreviations : ℕ → Poly) (j : ℕ) (forms forms2 forms3 forms4 : List TyForm) (from to t : Ty) → IsWrittenAs p names abbreviations j forms forms2 (Ok from) → IsFixed exn_ty forms2 forms3 to → IsFixed (arrow (tree forms3 from.0) (tree forms3 to.0)) forms3 forms4 t → IsArgumentMade p names abbreviations (Some j) forms forms4 (Ok t)
exn_made p names abbreviations j forms forms2 forms3 forms4 from to t w b c =
    let a : IsFixed w.0 forms forms2 from = w.2 in (
      arrow w.0 exn_ty,
      (w.0, w.1, refl),
      record {
        there = c.there;
        is = c.is ∙ ap (λ (x : Tree). arrow x (tree forms3 to.0)) (b.longer.trees from.0 a.there ∙ a.is) ∙ ap (λ (x : Tree). arrow w.0 x) b.is;
        longer = longer_both forms forms2 forms4 a.longer (longer_both forms2 forms3 forms4 b.longer c.longer);
        vars = λ i v e. a.vars i v (b.vars i v (c.vars i v e));
      },
    )

pub exn_failed : (p : Bare) (names : List TypeName) (abbreviations : ℕ → Poly) (j : ℕ) (forms forms2 : List TyForm) (e : Failure) → IsWrittenAs p names abbreviations j forms forms2 (Err e) → IsArgumentMade p names abbreviations (Some j) forms forms2 (Err e)
exn_failed p names abbreviations j forms forms2 Untypable h = h
exn_failed p names abbreviations j forms forms2 NoMemory h = tt

module _ (p : Bare) (rows : List NameType) (names : List TypeName) (abbreviations : ℕ → Poly) (settled : ℕ → Option Poly) (x : ℕ) (next : ℕ) (forms forms2 : List TyForm) where
  abbrev Asks : Option ℕ → Substitution → Type 0
  Asks arg f = IsExnArgumentAt p rows names abbreviations settled f x arg

  pub exn_posed : (arg : Option ℕ) (own t : Ty) (ps : List Pair) → AreForms forms → AreBelow forms next → StandsFor forms own (name_var p x) → ps ≡ pair own t ∷ [] → IsArgumentMade p names abbreviations arg forms forms2 (Ok t) → IsPosed names (Asks arg) next forms next forms2 ps
  exn_posed arg own t ps fs b s e w =
      let u : Tree = w.0 in
      posed_as names (λ f. f (name_var p x) ≡ inst f u) (Asks arg) next forms next forms2 ps
      (into arg u w.1)
      (out arg u w.1)
      (posed_var names (λ f y. y ≡ inst f u) next forms next forms2 own t (name_var p x) ps fs b s e (made_fixed names u next forms forms2 t b w.2))
    where
      into : (o : Option ℕ) (u : Tree) → IsExnMeant p names abbreviations o u → (f : Substitution) → f (name_var p x) ≡ inst f u → Asks o f
      into None u m f h = h ∙ ap (inst f) m
      into (Some j) u m f h = (m.0, m.1.means, h ∙ ap (inst f) m.2)

      out : (o : Option ℕ) (u : Tree) → IsExnMeant p names abbreviations o u → (f : Substitution) → Asks o f → f (name_var p x) ≡ inst f u
      out None u m f h = h ∙ sym (ap (inst f) m)
      out (Some j) u m f h = h.2 ∙ ap (λ (y : Tree). arrow (inst f y) exn_ty) (m.1.only h.0 h.1) ∙ sym (ap (inst f) m.2)

  pub exn_refused : (arg : Option ℕ) (e : Failure) → IsArgumentMade p names abbreviations arg forms forms2 (Err e) → IsPosing names (Asks arg) next forms next forms2 (Err e)
  exn_refused None Untypable h = absurd h
  exn_refused (Some j) Untypable h = λ f r a. h a.0 a.1
  exn_refused arg NoMemory h = tt

-- ---- The same rule, in other words

pub posing_as : (names : List TypeName) (A B : Substitution → Type 0) (next : ℕ) (forms : List TyForm) (next2 : ℕ) (forms2 : List TyForm) (r : Result (List Pair) Failure) → ((f : Substitution) → A f → B f) → ((f : Substitution) → B f → A f) → IsPosing names A next forms next2 forms2 r → IsPosing names B next forms next2 forms2 r
posing_as names A B next forms next2 forms2 (Ok ps) g h a = posed_as names A B next forms next2 forms2 ps g h a
posing_as names A B next forms next2 forms2 (Err Untypable) g h a = λ f r b. a f r (h f b)
posing_as names A B next forms next2 forms2 (Err NoMemory) g h a = tt
