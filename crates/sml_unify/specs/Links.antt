-- Forms that stand for others.
use Rattle.std.specs.Prelude.{◌≡◌, ℕ, ◌<◌, Option, Some, List, length, slice_get}
use Rattle.sml_types.specs.declared.types.Ty.{Ty}
use Rattle.sml_types.specs.declared.types.TyVar.{TyVar}
use Rattle.sml_types.specs.declared.types.TyForm.{TyForm}
use Rattle.sml_types.specs.declared.types.TyForm.TheVariants.{Var}
use Rattle.sml_unify.specs.Solved.{IsSameType}

-- numbers below a count are linked, to numbers of a lower rank
pub record IsRanked (count : ℕ) (link : ℕ → Option Ty) : Type 0 where
  pub rank : ℕ → ℕ
  pub falls : (i : ℕ) (t : Ty) → link i ≡ Some t → rank t.0 < rank i
  pub within : (i : ℕ) (t : Ty) → link i ≡ Some t → i < count

-- one number is linked
pub record IsLinked (link : ℕ → Option Ty) (i : ℕ) (t : Ty) (after : ℕ → Option Ty) : Type 0 where
  pub here : after i ≡ Some t
  pub others : (j : ℕ) → (j ≡ i → ⊥) → after j ≡ link j

-- links lead from a number to another
pub data Leads (link : ℕ → Option Ty) (i : ℕ) : ℕ → Type 0 where
  stay : {j : ℕ} → i ≡ j → Leads link i j
  onward : {j : ℕ} (k : ℕ) (t : Ty) → Leads link i k → link k ≡ Some t → t.0 ≡ j → Leads link i j

-- a form is linked to one that is no variable and has the same type under each solution
pub record AreLinks (forms : List TyForm) (bound : List (Option Ty)) (link : ℕ → Option Ty) : Type 0 where
  pub ranked : IsRanked (length forms) link
  pub there : (i : ℕ) (t : Ty) → link i ≡ Some t → t.0 < length forms
  pub app : (i : ℕ) (t : Ty) → link i ≡ Some t → (v : TyVar) → slice_get forms t.0 ≡ Some (Var v) → ⊥
  pub same : (i : ℕ) (t : Ty) → link i ≡ Some t → IsSameType forms bound i t.0
