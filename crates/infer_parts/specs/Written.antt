-- The types that written types mean, as forms.
use Rattle.std.specs.Prelude.{◌≡◌, ℕ, ◌-◌, ◌<◌, ◌≤◌, nat_eq, nat_lt, Bool, true, false, Option, Some, None, List, [], ◌∷◌, length, map, slice_get, slice_set}
use Rattle.std.specs.List.{AllByRecursion}
use Rattle.sml_tree.specs.declared.bare.TypeField.{TypeField}
use Rattle.sml_tree.specs.declared.bare.TypeExp.{TypeExp}
use Rattle.sml_tree.specs.declared.bare.TypeExp.TheVariants as exp
use Rattle.sml_tree.specs.IsBare.{IsDistinct}
use Rattle.sml_types.specs.declared.types.Ty.{Ty}
use Rattle.sml_types.specs.declared.types.TyVar.{TyVar}
use Rattle.sml_types.specs.declared.types.TyForm.{TyForm}
use Rattle.sml_types.specs.declared.types.Field.{Field}
use Rattle.sml_types.specs.declared.tables.TypeName.{TypeName}
use Rattle.sml_types.specs.declared.scheme.Scheme.{Scheme}
use Rattle.sml_types.specs.Tree.{Tree, Variable, inst}
use Rattle.sml_types.specs.Forms.{tree}
use Rattle.sml_types.specs.Poly.{Poly}
use Rattle.sml_types.specs.Schemes.{scheme_poly}
use Rattle.sml_types.specs.Library.{name_ty, arrow}
use Rattle.sml_types.specs.TypeExps.{IsRecord, labelled, given, explicit, Means}
use Rattle.sml_types.specs.Typing.{Covers}
use Rattle.sml_unify.specs.Solved.{bound_at}
use Rattle.infer_parts.specs.declared.given.Given.{Given}
use Rattle.infer_parts.specs.Segments.{IsWrittenSegment}

abbrev pub stood : List TyForm → TyVar → Option Ty → Tree
stood forms v None = Variable v
stood forms v (Some t) = tree forms t.0

-- what stands for the explicit type variables, by number
abbrev pub standing : List TyForm → List Ty → TyVar → Tree
standing forms stands v = stood forms v (slice_get stands v.num)

abbrev pub AreThere : List TyForm → List Ty → Type 0
AreThere forms tys = AllByRecursion (λ t. t.0 < length forms) tys

-- the type functions of the bindings that are there
abbrev pub AreAbbreviations : List TyForm → List Scheme → (ℕ → Poly) → Type 0
AreAbbreviations forms schemes abbreviations = (k : ℕ) (s : Scheme) → slice_get schemes k ≡ Some s → abbreviations k ≡ scheme_poly forms s

-- the right side of a type binding has the type variables on the left alone
abbrev pub IsClosedScheme : List TyForm → Scheme → Type 0
IsClosedScheme forms s = (s.body.0 < length forms) × Covers s.vars (tree forms s.body.0)

-- the fields of a written record type have the places from 0 on, each once
abbrev pub IsTypeRow : List TypeField → Type 0
IsTypeRow fields = IsDistinct (map (λ f. f.slot) fields) × AllByRecursion (λ f. f.slot < length fields) fields

abbrev pub AreTypeRows : List TypeExp → Type 0
AreTypeRows exps = (i : ℕ) (fields : List TypeField) → slice_get exps i ≡ Some (exp.Record fields) → IsTypeRow fields

-- whether the type binding that a written type cites is there
abbrev pub is_cited : ℕ → TypeExp → Bool
is_cited count (exp.Abbreviation k args) = nat_lt k count
is_cited count _ = true

-- the type bindings are there that a written type cites, and those between it and the first of its parts
pub record AreCited (exps : List TypeExp) (count j : ℕ) : Type 0 where
  pub first : ℕ
  pub order : first ≤ j
  pub segment : IsWrittenSegment exps first j
  pub each : (i : ℕ) (e : TypeExp) → first ≤ i → i ≤ j → slice_get exps i ≡ Some e → is_cited count e ≡ true

module _ (exps : List TypeExp) (marks : List Bool) (names : List TypeName) (abbreviations : ℕ → Poly) (at : TyVar → Tree) (forms : List TyForm) where
  -- a type is the only one that a written type means, with types in the place of the explicit type variables
  pub record IsTypeOf (j : ℕ) (ty : Ty) : Type 0 where
    pub there : ty.0 < length forms
    pub type : Tree
    pub means : Means exps marks names abbreviations j type
    pub only : (u : Tree) → Means exps marks names abbreviations j u → u ≡ type
    pub is : tree forms ty.0 ≡ inst at type

  -- a written type has this type, or means none
  abbrev pub IsWritten : ℕ → Option Ty → Type 0
  IsWritten j (Some ty) = IsTypeOf j ty
  IsWritten j None = (t : Tree) → Means exps marks names abbreviations j t → ⊥

-- ---- One written type, from its parts

abbrev pub entry_at : ℕ → List (Option Ty) → ℕ → Option Ty
entry_at first made c = bound_at made (c - first)

abbrev pub both_taken : Option Ty → Option (List Ty) → Option (List Ty)
both_taken (Some t) (Some ts) = Some (t ∷ ts)
both_taken _ _ = None

-- the types of parts, if each has one
abbrev pub all_taken : ℕ → List (Option Ty) → List ℕ → Option (List Ty)
all_taken first made [] = Some []
all_taken first made (c ∷ cs) = both_taken (entry_at first made c) (all_taken first made cs)

-- each item of the one list goes with the item of the other at its place
abbrev pub paired : List TyVar → List Ty → List Given
paired [] ts = []
paired (v ∷ vs) [] = []
paired (v ∷ vs) (t ∷ ts) = record { num = v.num; ty = t } ∷ paired vs ts

abbrev pub field_of : TypeField → Ty → Field
field_of f t = record { lab = f.lab; ty = t }

abbrev pub in_order : List TypeField → List Ty → List Field
in_order [] ts = []
in_order (f ∷ fields) [] = []
in_order (f ∷ fields) (t ∷ ts) = field_of f t ∷ in_order fields ts

-- each field is put into its place
abbrev pub put_in : List TypeField → List Ty → List Field → List Field
put_in [] ts made = made
put_in (f ∷ fields) [] made = made
put_in (f ∷ fields) (t ∷ ts) made = put_in fields ts (slice_set made f.slot (field_of f t))

abbrev pub counts : ℕ → Option TypeName → Bool
counts count None = false
counts count (Some row) = nat_eq (length row.params) count

-- whether the type name of a number has this many parameters
abbrev pub has_params : List TypeName → ℕ → ℕ → Bool
has_params names n count = counts count (slice_get names n)

-- what a written type cites is there, and the fields of a record type have their places
abbrev pub IsFitting : ℕ → ℕ → TypeExp → Type 0
IsFitting vars count (exp.Var u) = u < vars
IsFitting vars count (exp.Record fields) = IsTypeRow fields
IsFitting vars count (exp.Abbreviation k args) = k < count
IsFitting vars count _ = Unit {0}

-- what a written type means, if its parts mean these types
abbrev pub IsOneMeant : List Bool → List TypeName → (ℕ → Poly) → TypeExp → List Tree → Tree → Type 0
IsOneMeant marks names abbreviations (exp.Var u) ts t = t ≡ Variable (explicit marks u)
IsOneMeant marks names abbreviations (exp.Record fields) ts t = IsRecord (labelled fields ts) t
IsOneMeant marks names abbreviations (exp.Arrow a b) ts t = (x y : Tree) × (ts ≡ x ∷ y ∷ []) × (t ≡ arrow x y)
IsOneMeant marks names abbreviations (exp.Named n args) ts t = (row : TypeName) × (slice_get names n ≡ Some row) × (length args ≡ length row.params) × (t ≡ name_ty n ts)
IsOneMeant marks names abbreviations (exp.Abbreviation k args) ts t = (length args ≡ length (abbreviations k).vars) × (t ≡ inst (given (abbreviations k).vars ts) (abbreviations k).body)
IsOneMeant marks names abbreviations (exp.UnitOf args) ts t = ⊥

-- these are the types, with types in the place of variables
abbrev pub AreTrees : List TyForm → (TyVar → Tree) → List Ty → List Tree → Type 0
AreTrees forms at tys ts = map (λ t. tree forms t.0) tys ≡ map (inst at) ts

abbrev pub IsMadeTy : (Tree → Type 0) → (TyVar → Tree) → List TyForm → Option Ty → Type 0
IsMadeTy P at forms (Some ty) = (ty.0 < length forms) × (t : Tree) × P t × (tree forms ty.0 ≡ inst at t)
IsMadeTy P at forms None = (t : Tree) → P t → ⊥

-- a written type is made from the types of its parts
abbrev pub IsMadeOf : List Bool → List TypeName → List Scheme → List Ty → List TyForm → TypeExp → List Ty → List TyForm → Option Ty → Type 0
IsMadeOf marks names schemes stands old e tys forms made = (abbreviations : ℕ → Poly) (ts : List Tree) → AreAbbreviations old schemes abbreviations → AreTrees old (standing old stands) tys ts → IsMadeTy (IsOneMeant marks names abbreviations e ts) (standing old stands) forms made

abbrev pub IsThere : List TyForm → Option Ty → Type 0
IsThere forms None = Unit {0}
IsThere forms (Some t) = t.0 < length forms

abbrev pub AreMadeThere : List TyForm → List (Option Ty) → Type 0
AreMadeThere forms made = AllByRecursion (IsThere forms) made

-- a written type with a part that means no type means none
abbrev pub IsNext : List TypeName → List Scheme → List Ty → List TyForm → TypeExp → Option (List Ty) → List TyForm → Option Ty → Type 0
IsNext names schemes stands old e None forms o = o ≡ None
IsNext names schemes stands old e (Some tys) forms o = (marks : List Bool) → IsMadeOf marks names schemes stands old e tys forms o
