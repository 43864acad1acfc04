-- What `written` answers is what a written type means in each typing that has what is known.
use Rattle.std.proofs.Common.{◌≡◌, ℕ, zero, suc, ◌<◌, List, [], ◌∷◌, length, Option, Some, None, refl, sym, ap, ◌∙◌, arith, subst}
use Rattle.std.specs.Prelude.{slice_get}
use Rattle.std.specs.List.{AllByRecursion}
use Rattle.sml_tree.specs.declared.bare.Bare.{Bare}
use Rattle.sml_tree.specs.declared.bare.TypeExp.{TypeExp}
use Rattle.sml_types.specs.declared.types.Ty.{Ty}
use Rattle.sml_types.specs.declared.types.TyVar.{TyVar}
use Rattle.sml_types.specs.declared.types.TyForm.{TyForm}
use Rattle.sml_types.specs.declared.scheme.Scheme.{Scheme}
use Rattle.sml_types.specs.declared.tables.TypeName.{TypeName}
use Rattle.sml_types.specs.Tree.{Tree, Variable}
use Rattle.sml_types.specs.Forms.{tree}
use Rattle.sml_types.specs.Poly.{Poly, poly}
use Rattle.sml_types.specs.TypeExps.{explicit, Means}
use Rattle.sml_types.specs.Typing.{Typing, Written, Covers}
use Rattle.sml_unify.specs.Steps.{IsLonger}
use Rattle.infer_parts.specs.Written.{stood, standing, AreAbbreviations, IsClosedScheme, IsTypeOf, IsWritten}
use Rattle.infer_state.specs.Typings.{abbreviation_at}
use Rattle.infer_tables.specs.declared.known.Known.{Known}
use Rattle.infer_tables.specs.Checks.{AllCiteBelow}
use Rattle.infer_tables.specs.Known.{IsMade, IsScope, Allows}
use Rattle.infer_tables.specs.Meaning.{IsMeaning, IsMeaningOrNone, IsCovered, IsCoveredOrNone}
use Rattle.infer_tables.proofs.Lists.{some_eq, at_all}
use Rattle.infer_tables.proofs.Meanings.{made_same, moved, all_made}

pub there_is : {A : Type 0} (xs : List A) (i : ℕ) → i < length xs → (x : A) × (slice_get xs i ≡ Some x)
there_is [] i l = absurd (omega arith)
there_is (x ∷ xs) zero l = (x, refl)
there_is (x ∷ xs) (suc i) l = there_is xs i (omega arith)

-- type functions of later forms are those of earlier ones, where their types stood
pub abbreviations_before : (old new : List TyForm) (schemes : List Scheme) (m : ℕ → Poly) → IsLonger old new → AllByRecursion (IsClosedScheme old) schemes → AreAbbreviations new schemes m → AreAbbreviations old schemes m
abbreviations_before old new schemes m l closed h k s e = h k s e ∙ ap (poly s.vars) (l.trees s.body.0 (at_all (IsClosedScheme old) schemes k s closed e).0)

pub abbreviations_after : (old new : List TyForm) (schemes : List Scheme) (m : ℕ → Poly) → IsLonger old new → AllByRecursion (IsClosedScheme old) schemes → AreAbbreviations old schemes m → AreAbbreviations new schemes m
abbreviations_after old new schemes m l closed h k s e = h k s e ∙ ap (poly s.vars) (sym (l.trees s.body.0 (at_all (IsClosedScheme old) schemes k s closed e).0))

-- what allows a typing for later forms allows it for earlier ones
pub allows_before : (p : Bare) (old new : List TyForm) (k : Known) (t : Typing) → IsLonger old new → IsScope p old k → Allows new k t → Allows old k t
allows_before p old new k t l scope a = record { params = a.params; abbreviations = abbreviations_before old new k.abbreviations t.abbreviations l scope.closed a.abbreviations }

module _ (p : Bare) (old new : List TyForm) (k : Known) (scope : IsScope p old k) (longer : IsLonger old new) (exp : ℕ) (cited : AllCiteBelow (length k.tables.names) (length k.abbreviations) p.types exp) where
  abbrev at : TyVar → Tree
  at = standing old k.stands

  stood_same : (u : ℕ) (o : Option Ty) → slice_get k.stands u ≡ o → stood old (explicit p.tyvars u) o ≡ Variable (explicit p.tyvars u)
  stood_same u None e = refl
  stood_same u (Some t) e = scope.explicit_ones u t e

  bodies : (m : ℕ → Poly) → AreAbbreviations old k.abbreviations m → (i : ℕ) → i < length k.abbreviations → IsMade p.tyvars (length k.tables.names) (m i).body
  bodies m agree i l =
      let s = there_is k.abbreviations i l in
      subst (λ (q : Poly). IsMade p.tyvars (length k.tables.names) q.body) (sym (agree i s.0 s.1)) (scope.made i s.0 s.1)

  made_type : (m : ℕ → Poly) → AreAbbreviations old k.abbreviations m → (type : Tree) → Means p.types p.tyvars k.tables.names m exp type → IsMade p.tyvars (length k.tables.names) type
  made_type m agree type means =
      (all_made p exp scope.types (length k.tables.names) (length k.abbreviations) cited k.tables.names m (bodies m agree) (exp ∷ []) (type ∷ []) (omega arith, tt) means).0

  type_is : (m : ℕ → Poly) → AreAbbreviations old k.abbreviations m → (ty : Ty) (w : IsTypeOf p.types p.tyvars k.tables.names m at new exp ty) → tree new ty.0 ≡ w.type
  type_is m agree ty w = w.is ∙ made_same p.tyvars (length k.tables.names) at w.type (λ u. stood_same u (slice_get k.stands u) refl) (made_type m agree w.type w.means)

  back : (t : Typing) → Allows new k t → (u : Tree) → Written p t exp u → Means p.types p.tyvars k.tables.names t.abbreviations exp u
  back t a u h =
      moved p exp scope.types (length k.tables.names) (length k.abbreviations) cited t.names t.abbreviations k.tables.names t.abbreviations here (λ i l. refl) (exp ∷ []) (u ∷ []) (omega arith, tt) h
    where
      here : (n : ℕ) (row : TypeName) → n < length k.tables.names → slice_get t.names n ≡ Some row → (other : TypeName) × (slice_get k.tables.names n ≡ Some other) × (other.params ≡ row.params)
      here n row l e =
          let mine = there_is k.tables.names n l in
          let other = a.params n mine.0 mine.1 in
          let same = some_eq other.0 row (sym other.1 ∙ e) in
          (mine.0, mine.1, sym other.2 ∙ ap (λ (r : TypeName). r.params) same)

  forth : (t : Typing) → Allows new k t → (u : Tree) → Means p.types p.tyvars k.tables.names t.abbreviations exp u → Written p t exp u
  forth t a u h =
      moved p exp scope.types (length k.tables.names) (length k.abbreviations) cited k.tables.names t.abbreviations t.names t.abbreviations (λ n row l e. a.params n row e) (λ i l. refl) (exp ∷ []) (u ∷ []) (omega arith, tt) h

  pub meaning_or_none : (o : Option Ty) → ((m : ℕ → Poly) → AreAbbreviations old k.abbreviations m → IsWritten p.types p.tyvars k.tables.names m at new exp o) → IsMeaningOrNone p new k exp o
  meaning_or_none None w = λ t a u h. w t.abbreviations (abbreviations_before old new k.abbreviations t.abbreviations longer scope.closed a.abbreviations) u (back t a u h)
  meaning_or_none (Some ty) w =
      let m0 : ℕ → Poly = λ i. abbreviation_at old (slice_get k.abbreviations i) in
      let agree0 : AreAbbreviations old k.abbreviations m0 = λ i s e. ap (abbreviation_at old) e in
      let w0 = w m0 agree0 in
      record {
        there = w0.there;
        made = subst (IsMade p.tyvars (length k.tables.names)) (sym (type_is m0 agree0 ty w0)) (made_type m0 agree0 w0.type w0.means);
        means = λ t a.
            let agree = abbreviations_before old new k.abbreviations t.abbreviations longer scope.closed a.abbreviations in
            let v = w t.abbreviations agree in
            subst (Written p t exp) (sym (type_is t.abbreviations agree ty v)) (forth t a v.type v.means);
        only = λ t a u h.
            let agree = abbreviations_before old new k.abbreviations t.abbreviations longer scope.closed a.abbreviations in
            let v = w t.abbreviations agree in
            v.only u (back t a u h) ∙ sym (type_is t.abbreviations agree ty v);
      }

-- ---- Later forms

-- what a type means goes over to later forms
pub meaning_longer : (p : Bare) (old new : List TyForm) (k : Known) (exp : ℕ) (ty : Ty) → IsLonger old new → IsScope p old k → IsMeaning p old k exp ty → IsMeaning p new k exp ty
meaning_longer p old new k exp ty l scope h =
    let same = l.trees ty.0 h.there in
    record {
      there = (let a = h.there in let b = l.count in omega arith);
      made = subst (IsMade p.tyvars (length k.tables.names)) (sym same) h.made;
      means = λ t a. subst (Written p t exp) (sym same) (h.means t (allows_before p old new k t l scope a));
      only = λ t a u w. h.only t (allows_before p old new k t l scope a) u w ∙ sym same;
    }

pub covered_longer : (p : Bare) (old new : List TyForm) (k : Known) (vars : List TyVar) (exp : ℕ) (ty : Ty) → IsLonger old new → IsScope p old k → IsCovered p old k vars exp ty → IsCovered p new k vars exp ty
covered_longer p old new k vars exp ty l scope h =
    record {
      meaning = meaning_longer p old new k exp ty l scope h.meaning;
      covers = subst (Covers vars) (sym (l.trees ty.0 h.meaning.there)) h.covers;
    }

-- a type in which other variables stand is none that is wanted
pub not_covered : (p : Bare) (new : List TyForm) (k : Known) (vars : List TyVar) (exp : ℕ) (ty : Ty) → IsMeaning p new k exp ty → (Covers vars (tree new ty.0) → ⊥) → IsCoveredOrNone p new k vars exp None
not_covered p new k vars exp ty h n = λ t a u w c. n (subst (Covers vars) (h.only t a u w) c)

-- ---- The same lists

pub cites_as : (names names2 : List TypeName) (schemes schemes2 : List Scheme) (exps exps2 : List TypeExp) (exp : ℕ) → names ≡ names2 → schemes ≡ schemes2 → exps ≡ exps2 → AllCiteBelow (length names) (length schemes) exps exp → AllCiteBelow (length names2) (length schemes2) exps2 exp
cites_as names names2 schemes schemes2 exps exps2 exp e q r h =
    subst (λ es. AllCiteBelow (length names2) (length schemes2) es exp) r (subst (λ ss. AllCiteBelow (length names2) (length ss) exps exp) q (subst (λ ns. AllCiteBelow (length ns) (length schemes) exps exp) e h))

abbrev WrittenSo : Bare → List TyForm → List TyForm → ℕ → Option Ty → List TypeName → List Scheme → List Ty → Type 0
WrittenSo p old new exp o names schemes stands = (m : ℕ → Poly) → AreAbbreviations old schemes m → IsWritten p.types p.tyvars names m (standing old stands) new exp o

pub written_as : (p : Bare) (old new : List TyForm) (exp : ℕ) (o : Option Ty) (names names2 : List TypeName) (schemes schemes2 : List Scheme) (stands stands2 : List Ty) → names ≡ names2 → schemes ≡ schemes2 → stands ≡ stands2 → WrittenSo p old new exp o names schemes stands → WrittenSo p old new exp o names2 schemes2 stands2
written_as p old new exp o names names2 schemes schemes2 stands stands2 e q r h =
    subst (λ ss. WrittenSo p old new exp o names2 schemes2 ss) r (subst (λ ss. WrittenSo p old new exp o names2 ss stands) q (subst (λ ns. WrittenSo p old new exp o ns schemes stands) e h))
