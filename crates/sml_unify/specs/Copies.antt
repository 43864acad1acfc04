-- Copies of forms, with renamed variables.
use Rattle.std.specs.Prelude.{◌≡◌, ℕ, true, ◌<◌, ◌≤◌, nat_eq, Option, Some, None, List, [], ◌∷◌, ◌++◌, length, map, slice_get}
use Rattle.std.specs.List.{AllByRecursion, find}
use Rattle.sml_types.specs.declared.types.Ty.{Ty}
use Rattle.sml_types.specs.declared.types.Field.{Field}
use Rattle.sml_types.specs.declared.types.TyForm.{TyForm}
use Rattle.sml_types.specs.declared.types.TyForm.TheVariants.{Var, Fields, Arrow, Named}
use Rattle.sml_types.specs.declared.tables.TypeName.{TypeName}
use Rattle.sml_types.specs.Tree.{Tree, inst}
use Rattle.sml_types.specs.Forms.{tree, form_tree, parts_of, AreApplied}
use Rattle.sml_unify.specs.declared.resolve.Rename.{Rename}
use Rattle.sml_unify.specs.declared.order.Headed.{Headed}
use Rattle.sml_unify.specs.Steps.{IsLonger, logged}
use Rattle.sml_unify.specs.Orders.{reached}
use Rattle.sml_unify.specs.Resolve.{led_to, renamed_as, renamed, AreVarsOf}

-- the copy of a part, or itself
abbrev pub copied_as : Ty → Option Ty → Ty
copied_as part None = part
copied_as part (Some t) = t

abbrev pub copied_ty : (ℕ → Option Ty) → Ty → Ty
copied_ty copies part = copied_as part (copies part.0)

abbrev pub copied_field : (ℕ → Option Ty) → Field → Field
copied_field copies f = record { lab = f.lab; ty = copied_ty copies f.ty }

abbrev pub copied_fields : (ℕ → Option Ty) → List Field → List Field
copied_fields copies [] = []
copied_fields copies (f ∷ fields) = copied_field copies f ∷ copied_fields copies fields

-- a form of the copies of its parts
abbrev pub copied_form : (ℕ → Option Ty) → List Rename → TyForm → TyForm
copied_form copies renames (Var v) = Var (renamed_as v (led_to (find (λ r. nat_eq r.from v.num) renames)))
copied_form copies renames (Fields fields) = Fields (copied_fields copies fields)
copied_form copies renames (Arrow a b) = Arrow (copied_ty copies a) (copied_ty copies b)
copied_form copies renames (Named n args) = Named n (map (λ a. copied_ty copies a) args)

-- all copies stand there
abbrev pub AreThere : List TyForm → (ℕ → Option Ty) → Type 0
AreThere forms copies = (c : ℕ) (t : Ty) → copies c ≡ Some t → t.0 < length forms

abbrev pub HasCopy : (ℕ → Option Ty) → ℕ → Type 0
HasCopy copies c = (t : Ty) × (copies c ≡ Some t)

-- the parts of a number's form have their copies
abbrev pub HavePartsCopies : List TyForm → (ℕ → Option Ty) → ℕ → Type 0
HavePartsCopies forms copies at = (form : TyForm) → slice_get forms at ≡ Some form → AllByRecursion (HasCopy copies) (parts_of form)

-- the copy of a form is put last
pub record IsMade (forms : List TyForm) (copies : ℕ → Option Ty) (renames : List Rename) (at : ℕ) (after : List TyForm) (t : Ty) : Type 0 where
  pub form : TyForm
  pub here : slice_get forms at ≡ Some form
  pub last : t.0 ≡ length forms
  pub is : after ≡ forms ++ copied_form copies renames form ∷ []

-- a copy that is there, or a new one
pub data IsCopyOf (forms : List TyForm) (copies : ℕ → Option Ty) (renames : List Rename) (at : ℕ) (after : List TyForm) (t : Ty) : Type 0 where
  found : copies at ≡ Some t → after ≡ forms → IsCopyOf forms copies renames at after t
  made : IsMade forms copies renames at after t → IsCopyOf forms copies renames at after t

-- what always holds of forms that go on others with renamed variables
pub record IsGrown (renames : List Rename) (forms after : List TyForm) : Type 0 where
  pub longer : IsLonger forms after
  pub vars : AreVarsOf forms renames after
  pub applied : (names : List TypeName) → AreApplied names forms → AreApplied names after

-- all copies are forms from one number on
abbrev pub AreFrom : ℕ → List TyForm → (ℕ → Option Ty) → Type 0
AreFrom from forms copies = (c : ℕ) (t : Ty) → copies c ≡ Some t → (from ≤ t.0) × (t.0 < length forms)

-- the forms from a number on have no part before it
abbrev pub IsClosedFrom : ℕ → List TyForm → Type 0
IsClosedFrom from forms = (i : ℕ) (form : TyForm) → from ≤ i → slice_get forms i ≡ Some form → AllByRecursion (λ c. from ≤ c) (parts_of form)

-- a type means what its head means, and that what its form says
abbrev pub IsMeantAs : (ℕ → Tree) → List TyForm → Headed → Type 0
IsMeantAs m forms e = (m e.ty.0 ≡ m e.head.0) × ((form : TyForm) → slice_get forms e.head.0 ≡ Some form → m e.head.0 ≡ form_tree m form)

-- each copy is what its number means, with renamed variables
abbrev pub AreMeant : (ℕ → Tree) → List Rename → List TyForm → (ℕ → Option Ty) → Type 0
AreMeant m renames forms copies = (c : ℕ) (t : Ty) → copies c ≡ Some t → tree forms t.0 ≡ inst (renamed renames) (m c)

-- one more type has its copy
pub record IsAdded (renames : List Rename) (forms : List TyForm) (copies : ℕ → Option Ty) (e : Headed) (after : List TyForm) (copies2 : ℕ → Option Ty) : Type 0 where
  pub here : HasCopy copies2 e.ty.0
  pub kept : (c : ℕ) → HasCopy copies c → HasCopy copies2 c
  pub from : (from : ℕ) → from ≤ length forms → AreFrom from forms copies → AreFrom from after copies2
  pub closed : (from : ℕ) → from ≤ length forms → AreFrom from forms copies → IsClosedFrom from forms → IsClosedFrom from after
  pub means : (m : ℕ → Tree) → IsMeantAs m forms e → AreThere forms copies → AreMeant m renames forms copies → AreMeant m renames after copies2

-- all types have their copies
pub record AreCopied (renames : List Rename) (old : List TyForm) (order : List Headed) (forms : List TyForm) (copies : ℕ → Option Ty) : Type 0 where
  pub from : AreFrom (length old) forms copies
  pub closed : IsClosedFrom (length old) forms
  pub all : (c : ℕ) → logged (reached order) c ≡ true → HasCopy copies c
  pub means : (m : ℕ → Tree) → AllByRecursion (IsMeantAs m old) order → AreMeant m renames forms copies
