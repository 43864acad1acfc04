-- What a written type means in each typing that has what is known.
use Rattle.std.specs.Prelude.{◌≡◌, ℕ, ◌<◌, Option, Some, None, List, length}
use Rattle.sml_tree.specs.declared.bare.Bare.{Bare}
use Rattle.sml_types.specs.declared.types.Ty.{Ty}
use Rattle.sml_types.specs.declared.types.TyVar.{TyVar}
use Rattle.sml_types.specs.declared.types.TyForm.{TyForm}
use Rattle.sml_types.specs.Tree.{Tree}
use Rattle.sml_types.specs.Forms.{tree}
use Rattle.sml_types.specs.Typing.{Typing, Covers, Written}
use Rattle.infer_tables.specs.declared.known.Known.{Known}
use Rattle.infer_tables.specs.Known.{IsMade, Allows}

-- a written type means this type alone
pub record IsMeaning (p : Bare) (forms : List TyForm) (k : Known) (exp : ℕ) (ty : Ty) : Type 0 where
  pub there : ty.0 < length forms
  pub made : IsMade p.tyvars (length k.tables.names) (tree forms ty.0)
  pub means : (t : Typing) → Allows forms k t → Written p t exp (tree forms ty.0)
  pub only : (t : Typing) → Allows forms k t → (u : Tree) → Written p t exp u → u ≡ tree forms ty.0

-- a written type means this type, or none
abbrev pub IsMeaningOrNone : Bare → List TyForm → Known → ℕ → Option Ty → Type 0
IsMeaningOrNone p forms k exp (Some ty) = IsMeaning p forms k exp ty
IsMeaningOrNone p forms k exp None = (t : Typing) → Allows forms k t → (u : Tree) → Written p t exp u → ⊥

-- a written type means this type, in which these type variables stand alone
pub record IsCovered (p : Bare) (forms : List TyForm) (k : Known) (vars : List TyVar) (exp : ℕ) (ty : Ty) : Type 0 where
  pub meaning : IsMeaning p forms k exp ty
  pub covers : Covers vars (tree forms ty.0)

abbrev pub IsCoveredOrNone : Bare → List TyForm → Known → List TyVar → ℕ → Option Ty → Type 0
IsCoveredOrNone p forms k vars exp (Some ty) = IsCovered p forms k vars exp ty
IsCoveredOrNone p forms k vars exp None = (t : Typing) → Allows forms k t → (u : Tree) → Written p t exp u → Covers vars u → ⊥
