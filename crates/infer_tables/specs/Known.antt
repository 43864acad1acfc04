-- What is known of the type declarations so far, and what one more adds.
use Rattle.std.specs.Prelude.{◌≡◌, ℕ, ◌+◌, ◌<◌, Bool, Option, Some, None, List, length, slice_get}
use Rattle.std.specs.List.{AllByRecursion}
use Rattle.sml_tree.specs.declared.bare.Bare.{Bare}
use Rattle.sml_tree.specs.declared.bare.Node.{Node}
use Rattle.sml_tree.specs.declared.bare.Node.TheVariants as node
use Rattle.sml_types.specs.declared.types.Ty.{Ty}
use Rattle.sml_types.specs.declared.types.TyForm.{TyForm}
use Rattle.sml_types.specs.declared.types.TyForm.TheVariants.{Var}
use Rattle.sml_types.specs.declared.types.TyVar.{TyVar}
use Rattle.sml_types.specs.declared.scheme.Scheme.{Scheme}
use Rattle.sml_types.specs.declared.tables.TypeName.{TypeName}
use Rattle.sml_types.specs.Tree.{Head, NameHead, Tree, Variable, App, NoParts, Part}
use Rattle.sml_types.specs.Forms.{tree}
use Rattle.sml_types.specs.Library.{name_type}
use Rattle.sml_types.specs.TypeExps.{explicit}
use Rattle.sml_types.specs.Equality.{IsGreatest}
use Rattle.sml_types.specs.Typing.{Typing, type_numbers, IsTypeBinding, IsDatBinding}
use Rattle.sml_unify.specs.Steps.{IsLonger}
use Rattle.infer_parts.specs.Written.{AreThere, AreAbbreviations, IsClosedScheme}
use Rattle.infer_tables.specs.declared.known.Known.{Known}
use Rattle.infer_tables.specs.Declare.{IsClosedRow}
use Rattle.infer_tables.specs.Checks.{AreBareTypes}

abbrev pub IsMadeHead : ℕ → Head → Type 0
IsMadeHead count (NameHead n) = n < count
IsMadeHead count _ = Unit {0}

-- a type is made of explicit type variables and type names below a number
abbrev pub IsMade : List Bool → ℕ → Tree → Type 0
IsMade marks count (Variable v) = v ≡ explicit marks v.num
IsMade marks count (App h ts) = IsMadeHead count h × IsMade marks count ts
IsMade marks count NoParts = Unit {0}
IsMade marks count (Part t ts) = IsMade marks count t × IsMade marks count ts

-- what holds of what is known
pub record IsScope (p : Bare) (forms : List TyForm) (k : Known) : Type 0 where
  pub types : AreBareTypes p
  pub stands : length k.stands ≡ length p.tyvars
  pub there : AreThere forms k.stands
  pub explicit_ones : (u : ℕ) (t : Ty) → slice_get k.stands u ≡ Some t → tree forms t.0 ≡ Variable (explicit p.tyvars u)
  pub closed : AllByRecursion (IsClosedScheme forms) k.abbreviations
  pub made : (i : ℕ) (s : Scheme) → slice_get k.abbreviations i ≡ Some s → IsMade p.tyvars (length k.tables.names) (tree forms s.body.0)
  pub rows : AllByRecursion (IsClosedRow forms) k.tables.names

-- ---- Typings

-- the type names of the one list have the same parameters in the other
abbrev pub HaveParams : List TypeName → List TypeName → Type 0
HaveParams names others = (n : ℕ) (row : TypeName) → slice_get names n ≡ Some row → (other : TypeName) × (slice_get others n ≡ Some other) × (other.params ≡ row.params)

-- a typing has type names with the same parameters, and the same type functions
pub record Allows (forms : List TyForm) (k : Known) (t : Typing) : Type 0 where
  pub params : HaveParams k.tables.names t.names
  pub abbreviations : AreAbbreviations forms k.abbreviations t.abbreviations

-- a typing has the type names and the type functions that are known
pub record HasSoFar (forms : List TyForm) (k : Known) (t : Typing) : Type 0 where
  pub rows : (n : ℕ) (row : TypeName) → slice_get k.tables.names n ≡ Some row → (other : TypeName) × (slice_get t.names n ≡ Some other) × (name_type t.forms other ≡ name_type forms row)
  pub abbreviations : AreAbbreviations forms k.abbreviations t.abbreviations

-- the tables of a typing go on those that are known
pub record GoesOn (forms : List TyForm) (k : Known) (t : Typing) : Type 0 where
  pub longer : IsLonger forms t.forms
  pub rows : (n : ℕ) (row : TypeName) → slice_get k.tables.names n ≡ Some row → slice_get t.names n ≡ Some row
  pub abbreviations : AreAbbreviations t.forms k.abbreviations t.abbreviations

-- ---- One more declaration

-- what a type declaration asks of a typing
abbrev pub Asks : Bare → Typing → Node → Type 0
Asks p t (node.Type bindings) = AllByRecursion (IsTypeBinding p t) bindings
Asks p t (node.Datatype bindings) = AllByRecursion (IsDatBinding p t) bindings × IsGreatest t.forms t.names (type_numbers bindings)
Asks p t _ = Unit {0}

pub record Extends (before after : Known) : Type 0 where
  pub names : (n : ℕ) (row : TypeName) → slice_get before.tables.names n ≡ Some row → slice_get after.tables.names n ≡ Some row
  pub schemes : (n : ℕ) (s : Scheme) → slice_get before.abbreviations n ≡ Some s → slice_get after.abbreviations n ≡ Some s

-- the variables of the later forms stand in the earlier ones
abbrev pub HaveVars : List TyForm → List TyForm → Type 0
HaveVars old new = (i : ℕ) (v : TyVar) → slice_get new i ≡ Some (Var v) → (j : ℕ) × (slice_get old j ≡ Some (Var v))

-- more is known, with this many type names more: a typing that goes on it has what is asked, and one that has what was known and what is asked has this too
pub record IsStep (p : Bare) (asks : Typing → Type 0) (more : ℕ) (forms : List TyForm) (k : Known) (after : List TyForm) (k2 : Known) : Type 0 where
  pub longer : IsLonger forms after
  pub vars : HaveVars forms after
  pub extends : Extends k k2
  pub count : length k2.tables.names ≡ length k.tables.names + more
  pub scope : IsScope p after k2
  pub sound : (t : Typing) → GoesOn after k2 t → asks t
  pub complete : (t : Typing) → HasSoFar forms k t → asks t → HasSoFar after k2 t

-- more is known, or no typing has what was known and what is asked
abbrev pub IsAnswer : Bare → (Typing → Type 0) → ℕ → List TyForm → Known → List TyForm → Option Known → Type 0
IsAnswer p asks more forms k after (Some k2) = IsStep p asks more forms k after k2
IsAnswer p asks more forms k after None = (t : Typing) → HasSoFar forms k t → asks t → ⊥
