-- The rows of the datatypes of one declaration.
use Rattle.std.specs.Prelude.{◌≡◌, ℕ, suc, Bool, Option, Some, None, List, [], ◌∷◌}
use Rattle.std.specs.List.{AllByRecursion}
use Rattle.sml_tree.specs.declared.bare.Bare.{Bare}
use Rattle.sml_tree.specs.declared.bare.ConBinding.{ConBinding}
use Rattle.sml_tree.specs.declared.bare.DatBinding.{DatBinding}
use Rattle.sml_tree.specs.IsBare.{IsDistinct}
use Rattle.sml_types.specs.declared.types.Ty.{Ty}
use Rattle.sml_types.specs.declared.types.TyVar.{TyVar}
use Rattle.sml_types.specs.declared.types.TyForm.{TyForm}
use Rattle.sml_types.specs.declared.tables.Equality.TheVariants.{Never}
use Rattle.sml_types.specs.declared.tables.ConRow.{ConRow}
use Rattle.sml_types.specs.declared.tables.TypeName.{TypeName}
use Rattle.sml_types.specs.TypeExps.{all_explicit}
use Rattle.sml_types.specs.Typing.{Typing, IsArgument, CoversArgument, AreConstructors, IsDatBinding}
use Rattle.infer_tables.specs.declared.known.Known.{Known}
use Rattle.infer_tables.specs.Known.{Allows}
use Rattle.infer_tables.specs.Meaning.{IsCovered}

-- ---- Before the constructors

-- the row of a datatype before its constructors are known
abbrev pub header : List Bool → DatBinding → TypeName
header marks b = record { text = []; params = all_explicit marks b.params; eq = Never; cons = [] }

abbrev pub headers : List Bool → List DatBinding → List TypeName
headers marks [] = []
headers marks (b ∷ bindings) = header marks b ∷ headers marks bindings

-- the type names have the next numbers, and different parameters each
abbrev pub AreNext : ℕ → List DatBinding → Type 0
AreNext next [] = Unit {0}
AreNext next (b ∷ bindings) = (b.type_name ≡ next) × IsDistinct b.params × AreNext (suc next) bindings

-- ---- The constructors

module _ (p : Bare) (forms : List TyForm) (k : Known) where
  abbrev pub IsArgumentRow : List TyVar → Option ℕ → Option Ty → Type 0
  IsArgumentRow vars None None = Unit {0}
  IsArgumentRow vars (Some j) (Some a) = IsCovered p forms k vars j a
  IsArgumentRow vars _ _ = ⊥

  pub record IsConRow (vars : List TyVar) (b : ConBinding) (c : ConRow) : Type 0 where
    pub text : c.text ≡ b.text
    pub arg : IsArgumentRow vars b.arg c.arg

  abbrev pub AreConRows : List TyVar → List ConBinding → List ConRow → Type 0
  AreConRows vars [] [] = Unit {0}
  AreConRows vars (b ∷ bindings) (c ∷ cons) = IsConRow vars b c × AreConRows vars bindings cons
  AreConRows vars _ _ = ⊥

  pub record IsDatRow (b : DatBinding) (row : TypeName) : Type 0 where
    pub text : row.text ≡ b.text
    pub params : row.params ≡ all_explicit p.tyvars b.params
    pub apart : IsDistinct b.params
    pub cons : AreConRows row.params b.cons row.cons

  abbrev pub AreDatRows : List DatBinding → List TypeName → Type 0
  AreDatRows [] [] = Unit {0}
  AreDatRows (b ∷ bindings) (row ∷ rows) = IsDatRow b row × AreDatRows bindings rows
  AreDatRows _ _ = ⊥

  -- a row, or no typing has the constructor
  abbrev pub IsConRowOrNone : List TyVar → ConBinding → Option ConRow → Type 0
  IsConRowOrNone vars b (Some c) = IsConRow vars b c
  IsConRowOrNone vars b None = (t : Typing) → Allows forms k t → (c : ConRow) → IsArgument p t b.arg c.arg → CoversArgument p t vars c.arg → ⊥

  abbrev pub AreConRowsOrNone : List TyVar → List ConBinding → Option (List ConRow) → Type 0
  AreConRowsOrNone vars bindings (Some cons) = AreConRows vars bindings cons
  AreConRowsOrNone vars bindings None = (t : Typing) → Allows forms k t → (cons : List ConRow) → AreConstructors p t bindings cons → AllByRecursion (λ c. CoversArgument p t vars c.arg) cons → ⊥

  abbrev pub IsDatRowOrNone : DatBinding → Option TypeName → Type 0
  IsDatRowOrNone b (Some row) = IsDatRow b row
  IsDatRowOrNone b None = (t : Typing) → Allows forms k t → IsDatBinding p t b → ⊥

  abbrev pub AreDatRowsOrNone : List DatBinding → Option (List TypeName) → Type 0
  AreDatRowsOrNone bindings (Some rows) = AreDatRows bindings rows
  AreDatRowsOrNone bindings None = (t : Typing) → Allows forms k t → AllByRecursion (IsDatBinding p t) bindings → ⊥
